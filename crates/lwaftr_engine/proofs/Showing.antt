-- The run over the generated capture is the demonstration's.
use Rattle.lwaftr_engine.proofs.Words.{◌≡◌, ℕ, zero, suc, ◌+◌, ◌<◌, ◌≤◌, ◌%◌, ◌^◌, nat_le, cond, Bool, true, false, List, [], ◌∷◌, length, map, All, drop}
use Rattle.lwaftr_engine.proofs.Words.{Option, Some, None, Ok, ◌⊎◌, inl, inr, refl, sym, ◌∙◌, ap, subst, arith, ◌&&◌, nat_lt, count_by, range_with_len}
use Rattle.lwaftr_engine.proofs.Words.{All-cons, All-nil, length-map-range_with_len, sum_by-cons, Contents, HistoryValue, IsCapture, IsRecordable}
use Rattle.lwaftr_engine.proofs.Words.{TimedPacket, capture_bytes, timed, written_form, Form, Rec, bytes6, Puts, HasDemoHistory, IsDemo, demo_tables, middle}
use Rattle.lwaftr_engine.proofs.Words.{middle_window, IsWhole, Header, IsInput, IsInputBy, IsCourse, IsHistoryOf, IsShow, Show, Status, is_pcapng}
use Rattle.lwaftr_engine.proofs.Words.{AreAllPoints, Window, drawn, state_after, capture_of, generated, packet4_of, packet_by, tunnel_head, way_of, Draw}
use Rattle.lwaftr_engine.proofs.Words.{Kind, Way, BindingTable, IsPlanOf, some_slot_refused}
use Rattle.lwaftr_engine.proofs.Laws.{OneReading}
use Rattle.lwaftr_engine.proofs.Telling.{is_one}
use Rattle.capture_io.specs.Capture as classic
use Rattle.lwaftr_engine.specs.declared.status.Status.TheVariants as status
use Rattle.traffic_gen.specs.declared.generator.Kind.TheVariants as kind

-- packets that can be recorded are read as they were written
abbrev pub WrittenIsRead : Type 0
WrittenIsRead = (nano : Bool) (packets : List TimedPacket) → All IsRecordable packets → length packets ≤ 2 ^ 31 →
    (rs : List Rec) × IsCapture (capture_bytes nano packets) (Ok (written_form nano)) rs None × (map timed rs ≡ packets)

inner_size : (id : ℕ) (way : Way) → length (packet4_of id way) ≡ 32
inner_size id way = omega arith

outer_size : (sender : ℕ) (p : List ℕ) → length (bytes6 (tunnel_head sender) p) ≡ 40 + length p
outer_size sender p = omega arith

size_by : (k : Kind) (sender : ℕ) (p : List ℕ) → length p ≡ 32 → length (packet_by k sender p) ≤ 262144
size_by kind.Inward sender p size = omega (arith, size)
size_by _ sender p size = omega (arith, size, outer_size sender p)

can_record : (seed number : ℕ) → number < 1000000 → IsRecordable (generated seed number)
can_record seed number few =
    let draw : Draw = drawn (state_after seed (number + 1)) in
    record {
      seconds = omega (arith, few);
      fraction = omega (arith, few);
      size = size_by draw.kind draw.sender (packet4_of (number % 2 ^ 16) (way_of draw)) (inner_size (number % 2 ^ 16) (way_of draw));
    }

can_record_all : (seed first count : ℕ) → first + count ≤ 1000000 → All IsRecordable (map (generated seed) (range_with_len first count))
can_record_all seed first zero few = All-nil IsRecordable
can_record_all seed first (suc count) few =
    All-cons IsRecordable (generated seed first) (map (generated seed) (range_with_len (first + 1) count)) (can_record seed first (omega (arith, few)))
    (can_record_all seed (first + 1) count (omega (arith, few)))

last_false : (b : Bool) → (b && false) ≡ false
last_false true = refl
last_false false = refl

is_classic : (packets : List TimedPacket) → is_pcapng (capture_bytes false packets) ≡ false
is_classic packets = last_false (nat_lt 3 (length (capture_bytes false packets)))

map_length : (rs : List Rec) → length (map timed rs) ≡ length rs
map_length [] = refl
map_length (r ∷ rs) = ap suc (map_length rs)

-- the records of a classic capture are as many as the packets that were written
counted : OneReading → (packets : List TimedPacket) (rs : List Rec) → IsCapture (capture_bytes false packets) (Ok (written_form false)) rs None →
    map timed rs ≡ packets →
    (header : Header) (others : List Rec) → IsInputBy false (capture_bytes false packets) header others None → length others ≡ length packets
counted one packets rs capture are header others input =
    let bytes : List ℕ = capture_bytes false packets in
    let form : input.0 ≡ written_form false = cc (input.2.0, capture.0) in
    let P : Form → Type 0 = λ f. classic.Splits f.big (drop 24 bytes) 24 0 others None in
    let same : rs ≡ others = (one false (drop 24 bytes) 24 0 rs others None None capture.1 (subst P form input.2.1)).0 in
    ap (λ (l : List Rec). length l) (sym same) ∙ (sym (map_length rs) ∙ ap (λ (l : List TimedPacket). length l) are)

count_is : OneReading → WrittenIsRead → (seed count : ℕ) → count ≤ 1000000 → (header : Header) (rs : List Rec) →
    IsInput (capture_of seed count) header rs None → length rs ≡ count
count_is one written seed count few header rs input =
    let packets : List TimedPacket = map (generated seed) (range_with_len 0 count) in
    let size = length-map-range_with_len (generated seed) 0 count in
    let read = written false packets (can_record_all seed 0 count (omega (arith, few))) (omega (arith, size, few)) in
    let I : Bool → Type 0 = λ b. IsInputBy b (capture_bytes false packets) header rs None in
    counted one packets read.0 read.1 read.2 header rs (subst I (is_classic packets) input) ∙ size

is_open : (count : ℕ) → count_by (λ (w : Window). nat_le w.earliest count) (middle_window count) ≡ 1
is_open count =
    let w : Window = record { earliest = middle count; latest = middle count } in
    omega (arith, is_one (middle count) count (omega arith), sum_by-cons (λ (v : Window). cond (nat_le v.earliest count) 1 0) w [])

-- the one point of the run
at_middle : (count : ℕ) (points : List ℕ) → AreAllPoints (middle_window count) points count → points ≡ middle count ∷ []
at_middle count [] are = absurd (omega (arith, are.each, is_open count))
at_middle count (p ∷ []) are =
    let inside = are.placed.inside 0 (omega arith) in
    let same : p ≡ middle count = omega (arith, inside.0, inside.1) in
    ap (λ (n : ℕ). n ∷ []) same
at_middle count (p ∷ q ∷ points) are = absurd (omega (arith, are.each, is_open count))

-- what the run leaves at `Done`, with a sink in memory that had nothing, is the demonstration's summary and history
pub is_demo : OneReading × WrittenIsRead → {seed count : ℕ} → count ≤ 1000000 → {show : Show} → IsShow seed count show →
    {old new : Contents} {before line : List ℕ} {history : Option HistoryValue} → before ≡ [] →
    ((tables : ℕ → BindingTable) (windows : List Window) → IsPlanOf tables windows show.made.plan →
    IsWhole show.job tables windows show.made.slots show.files.reading old new (Some before) (Some line) history None × (some_slot_refused show.made.slots ≡ false)) →
    IsDemo seed count line history
is_demo laws {seed} {count} few {show} is {old} {new} {before} {line} {history} none leaves =
    let windows = middle_window count in
    let W : List ℕ → Type 0 = λ said.
    IsWhole show.job demo_tables (middle_window count) show.made.slots show.files.reading old new (Some said) (Some line) history None in
    let whole = subst W none (leaves demo_tables windows is.made.plan).0 in
    let form = whole.header.form in
    let r = whole.is_run in
    let C : List ℕ → Type 0 = λ bytes. IsInput bytes whole.header whole.records None in
    let input : IsInput (capture_of seed count) whole.header whole.records None = subst C is.holds whole.capture in
    let many = count_is laws.0 laws.1 seed count few whole.header whole.records input in
    let A : ℕ → Type 0 = λ n. AreAllPoints (middle_window count) r.points n in
    let points_are = at_middle count r.points (subst A many r.is_course.placed) in
    let E : Option ℕ → Type 0 = λ e. IsCourse demo_tables windows e r.points form whole.records r.course in
    let P : List ℕ → Type 0 = λ ps. IsCourse demo_tables windows None ps form whole.records r.course in
    let H : List ℕ → Type 0 = λ ps. IsHistoryOf demo_tables windows ps form whole.records history in
    record {
      shown = record {
        header = whole.header;
        records = whole.records;
        capture = input;
        counted = many;
        course = r.course;
        is_course = subst P points_are (subst E is.job.no_limit r.is_course);
        line_is = cc r.outputs.summary;
      };
      is_history = subst H points_are r.is_history;
    }

-- a line that cannot be put
pub no_history : (seed count : ℕ) (s : Status) (line : List ℕ) (said now : Option (List ℕ)) (history : Option HistoryValue) → Puts s line said now →
    (s ≡ status.Done → ⊥) → history ≡ None → HasDemoHistory seed count s history
no_history seed count status.Done line said now history put other none = absurd (other refl)
no_history seed count _ line said now history put other none = none

pub put_ends : (s : Status) (line : List ℕ) (said now : Option (List ℕ)) → Puts s line said now →
    (s ≡ status.Done) ⊎ ((s ≡ status.WriteFault) ⊎ (s ≡ status.OutOfMemory))
put_ends status.Done line said now put = inl refl
put_ends status.WriteFault line said now put = inr (inl refl)
put_ends status.OutOfMemory line said now put = inr (inr refl)
put_ends _ line said now put = absurd put
