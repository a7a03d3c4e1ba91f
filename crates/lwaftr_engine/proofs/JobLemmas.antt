-- What a run leaves, in the words of the whole files.
use Rattle.lwaftr_engine.proofs.Words.{subst, ◌≡◌, ℕ, ◌<◌, nat_lt, Bool, true, false, not, List, [], ◌∷◌, length, Option, Some, None, Result, Ok, Err, refl}
use Rattle.lwaftr_engine.proofs.Words.{sym, ◌∙◌, ap, arith, Contents, content, Moves, Told, FailsAt, Readable, IfOk, EndsInRecords, IsOfRecord, is_cut}
use Rattle.lwaftr_engine.proofs.Words.{FailsIn, HasHistoryBy, GoesWithRead, GoesWithRefusal, HasHistory, HasSummary, Fault, HistoryValue, left_of, stands_in}
use Rattle.lwaftr_engine.proofs.Words.{ClassicReader, CaptureBad, Form, Ending, Header, blocks_of, classic_of, header_by, in_blocks, in_classic, IsAtFirst}
use Rattle.lwaftr_engine.proofs.Words.{IsEarly, LeavesMade, ended_status, some_slot_refused, ReadsOf, Setup, Spot, spot, Status, EndsBehind, IsInHeader, Seen}
use Rattle.lwaftr_engine.proofs.Words.{Standing, Interface, Tables, LeavesOpened, World}
use Rattle.capture_io.specs.Classic.{IsOpened}
use Rattle.lwaftr_engine.proofs.Moving.{told_moves}
use Rattle.aftr_io.specs.declared.outside.Fault.TheVariants as fault
use Rattle.capture_io.specs.Header as classic_header
use Rattle.capture_io.specs.declared.rounds.Ending.TheVariants as ending
use Rattle.capture_io.specs.declared.written.Written.TheVariants as written
use Rattle.pcapng_io.specs.Captures as blocks
use Rattle.pcapng_io.specs.Rounds as rounds
use Rattle.pcapng_io.specs.Standing as standing

-- a classic capture that was opened
pub classic_first : (r : ClassicReader) (form : Form) (bytes : List ℕ) → false ≡ blocks.is_pcapng bytes → form ≡ r.form → r.at ≡ 24 → IsOpened r bytes →
    IsAtFirst (spot (stands_in r) (left_of r) r.at) form (written.Classic form.nano) bytes
classic_first r form bytes kind form_is at_is opened =
    record {
      header = classic_of r.form;
      sound = rw (← kind) (ap in_classic opened.header);
      form_is = form_is;
      written_is = ap (λ (f : Form). written.Classic f.nano) form_is;
      at_is = at_is;
      stands = opened.stands;
      all = λ rs e left.
          rw (← kind) (r.form, refl, opened.all rs e left);
    }

-- a pcapng file that was opened
pub blocks_first : (r : Standing) (form : Form) (bytes : List ℕ) → true ≡ blocks.is_pcapng bytes → form ≡ blocks.form_of r.seen.known →
    standing.Opens (Ok r) bytes →
    IsAtFirst (spot (standing.stands_in r) (rounds.left_of r.seen) r.seen.known.at) form written.Blocks bytes
blocks_first r form bytes kind form_is opened =
    record {
      header = blocks_of r.seen;
      sound = rw (← kind) (ap in_blocks opened.0);
      form_is = form_is;
      written_is = refl;
      at_is = refl;
      stands = opened.1;
      all = λ rs e left.
          rw (← kind) (r.seen, refl, (opened.0, left));
    }

has_history_done : (input : List ℕ) (refused : Bool) (last : Option (List ℕ × ℕ)) (said now : Option (List ℕ)) (history : Option HistoryValue) →
    HasSummary said now history → HasHistory input (ended_status (Ok ending.End) refused) last said now history
has_history_done input true last said now history summed = summed
has_history_done input false last said now history summed = summed

with_refusal : (refusal : CaptureBad) (said now : Option (List ℕ)) (history : Option HistoryValue) → IsOfRecord refusal → HasSummary said now history →
    GoesWithRefusal refusal said now history
with_refusal refusal said now (Some history) of summed = (of, summed)
with_refusal refusal said now None of summed = absurd summed

with_read : (input : List ℕ) (last : Option (List ℕ × ℕ)) (said now : Option (List ℕ)) (history : Option HistoryValue) →
    (place : ℕ) × (last ≡ Some (input, place)) → HasSummary said now history → GoesWithRead input last said now history
with_read input last said now (Some history) of summed = (of, summed)
with_read input last said now None of summed = absurd summed

pub has_history : (input : List ℕ) (ended : Result Ending Fault) (refused : Bool) (before after : Readable) (said now : Option (List ℕ))
    (history : Option HistoryValue) →
    HasHistoryBy ended said now history → IfOk ended (λ e. EndsInRecords (Some e)) → IfOk ended (λ e. ReadsOf (is_cut (Some e)) input before after) →
    HasHistory input (ended_status ended refused) after.last said now history
has_history input (Ok ending.End) refused before after said now history summed in_records reads =
    has_history_done input refused after.last said now history summed
has_history input (Ok (ending.Bad refusal)) refused before after said now history summed in_records reads =
    with_refusal refusal said now history in_records summed
has_history input (Ok ending.ReadFault) refused before after said now history summed in_records reads =
    with_read input after.last said now history (reads.last.0, reads.last.2) summed
has_history input (Err fault.Failed) refused before after said now history none in_records reads = none
has_history input (Err fault.OutOfMemory) refused before after said now history none in_records reads = none

pub ended_place : (name : List ℕ) (ended : Result Ending Fault) (refused : Bool) (before now : Readable) →
    IfOk ended (λ e. ReadsOf (is_cut (Some e)) name before now) →
    FailsIn (name ∷ []) (ended_status ended refused) before.last now.last
ended_place name (Ok ending.End) true before now reads = reads.last
ended_place name (Ok ending.End) false before now reads = reads.last
ended_place name (Ok (ending.Bad refusal)) refused before now reads = reads.last
ended_place name (Ok ending.ReadFault) refused before now reads =
    record { name = name; place = reads.last.0; among = (0, omega arith, refl); last_is = reads.last.2 }
ended_place name (Err fault.Failed) refused before now reads = tt
ended_place name (Err fault.OutOfMemory) refused before now reads = tt

pub opened_leaves : (x : Setup) (plan : Tables) (reader : Spot) (ended : Result Ending Fault) (result : Status) (before now : World)
    (history : Option HistoryValue) →
    result ≡ ended_status ended (some_slot_refused x.slots) → Told before.reading.held (λ i. IsAtFirst reader x.form x.written (content i x.run.input)) →
    Told before.reading.held (λ i. Moves before.writing.held now.writing.held (LeavesOpened x plan reader ended before now history i)) →
    Told before.reading.held (λ i. Moves before.writing.held now.writing.held (LeavesMade x.run plan x.slots result before now history i))
opened_leaves x plan reader ended result before now history is first ran =
    told_moves before.reading.held before.writing.held now.writing.held (λ i. IsAtFirst reader x.form x.written (content i x.run.input))
    (LeavesOpened x plan reader ended before now history) (LeavesMade x.run plan x.slots result before now history)
    (λ i m n at_first leaves tables windows of. rw is (leaves at_first tables windows of)) first ran

-- a read that failed before the first record
pub same_last : {a b : List ℕ × ℕ} {last : Option (List ℕ × ℕ)} → last ≡ Some a → last ≡ Some b → a ≡ b
same_last e f = cc

classic_end : (header : Header) (read : Result Form CaptureBad) → in_classic read ≡ Ok header → header.ends_at ≡ 24
classic_end header (Ok form) e = cc e
classic_end header (Err refusal) e = absurd (cc e)

pub early_classic : (name bytes : List ℕ) (old last : Option (List ℕ × ℕ)) → false ≡ blocks.is_pcapng bytes → FailsAt true name (λ place. place < 24) old last →
    IsEarly name bytes last
early_classic name bytes old last kind failed = λ header place sound last_is has_end behind.
    let H : Bool → Type 0 = λ b. header_by b bytes ≡ Ok header in
    let end = classic_end header (classic_header.header_in bytes) (subst H (sym kind) sound) in
    absurd (omega (arith, failed.1, behind, end, ap (λ (read : List ℕ × ℕ). read.1) (same_last failed.2 last_is)))

blocks_header : (header : Header) (read : Result Seen CaptureBad) → in_blocks read ≡ Ok header → (seen : Seen) × (read ≡ Ok seen) × (header ≡ blocks_of seen)
blocks_header header (Ok seen) e = (seen, refl, cc e)
blocks_header header (Err refusal) e = absurd (cc e)

ends_behind : (place end : ℕ) (interfaces : List Interface) → not (nat_lt (length interfaces) 1) ≡ true → EndsBehind place interfaces end → place < end
ends_behind place end [] has_end behind = absurd (cc has_end)
ends_behind place end (interface ∷ interfaces) has_end behind = behind

pub early_blocks : (m : Contents) (name : List ℕ) (old last : Option (List ℕ × ℕ)) → true ≡ blocks.is_pcapng (content m name) →
    FailsAt true name (IsInHeader (Some m) name) old last → IsEarly name (content m name) last
early_blocks m name old last kind failed = λ header place sound last_is has_end behind.
    let H : Bool → Type 0 = λ b. header_by b (content m name) ≡ Ok header in
    let found = blocks_header header (blocks.header_in (content m name)) (subst H (sym kind) sound) in
    let inside = ends_behind failed.0 found.0.known.at found.0.interfaces (sym (ap (λ (h : Header). h.has_end) found.2) ∙ has_end) (failed.1 found.0 found.1) in
    absurd (omega (arith, inside, behind, ap (λ (h : Header). h.ends_at) found.2, ap (λ (read : List ℕ × ℕ). read.1) (same_last failed.2 last_is)))
