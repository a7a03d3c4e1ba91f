-- A capture of either format: what its first four bytes tell, and where a read that failed lies.
use Rattle.std.proofs.Common.{◌≡◌, ℕ, ◌<◌, nat_lt, Bool, true, false, List, length, take, drop, Option, Some, None, Result, Err, refl, sym, ◌∙◌, ap, subst, arith}
use Rattle.std.proofs.lemmas.Bool.Decides.{nat_tests}
use Rattle.std.proofs.lemmas.Grind.{common_steps}
use Rattle.std.proofs.lemmas.List.{length-take}
use Rattle.aftr_io.specs.Contents.{Contents, content, Told}
use Rattle.capture_io.specs.Classic as classic
use Rattle.capture_io.specs.declared.classic.ClassicReader.{ClassicReader}
use Rattle.capture_io.specs.declared.forms.CaptureBad.{CaptureBad}
use Rattle.capture_io.specs.declared.forms.CaptureError.{CaptureError}
use Rattle.capture_io.specs.declared.forms.Rec.{Rec}
use Rattle.pcapng_io.specs.declared.either.Reader.{Reader}
use Rattle.pcapng_io.specs.declared.either.Reader.TheVariants as reader
use Rattle.pcapng_io.specs.Answers.{IsInHeader}
use Rattle.pcapng_io.specs.Captures.{at_start, is_pcapng}
use Rattle.pcapng_io.specs.Either.{IsInHead, IsInHeadBy, OpensEither, RefusesBy, left_either}
use Rattle.pcapng_io.specs.Files.{IsInBlock, left_at}
use Rattle.pcapng_io.specs.Rounds.{left_of}
use Rattle.pcapng_io.specs.Standing.{Standing}
use Rattle.pcapng_io.proofs.BlockLemmas.{block_frame}
use Rattle.pcapng_io.proofs.FrameLemmas.{frame_is}
use Rattle.capture_io.proofs.LawLemmas.{span_front}
use Rattle.pcapng_io.proofs.OpenLemmas.{open_inside, opens_begins}

kind_front : (bytes : List ℕ) → is_pcapng (take 4 bytes) ≡ is_pcapng bytes
kind_front bytes =
    let some : nat_lt 3 (length (take 4 bytes)) ≡ nat_lt 3 (length bytes) = grind (arith, nat_tests, common_steps, length-take 4 bytes) in
    rw (some, span_front bytes 4 0 4 (omega arith)) refl

-- what the first four bytes say is the file's format
pub kind_told : (held : Option Contents) (name read : List ℕ) (said kind : Bool) → Told held (λ m. read ≡ take 4 (drop 0 (content m name))) → said ≡ is_pcapng read → said ≡ kind →
    Told held (λ m. kind ≡ is_pcapng (content m name))
kind_told None name read said kind e s k = tt
kind_told (Some m) name read said kind e s k = sym k ∙ (s ∙ (ap is_pcapng e ∙ kind_front (content m name)))

-- a place among the first four bytes is one of the first block
pub first_inside : (held : Option Contents) (name : List ℕ) (place : ℕ) → place < 4 → IsInHeader held name place
first_inside held name place few = open_inside held name at_start.known place (opens_begins held name) (by_held held)
  where
    by_held : (h : Option Contents) → IsInBlock h name at_start 0 place
    by_held None = (omega arith, tt)
    by_held (Some m) = (
      omega arith,
      λ b e. block_frame at_start (left_at m name 0) 0 b place (omega arith) (λ frame f. omega (arith, few, (frame_is false (left_at m name 0) 0 frame f).some)) e,
    )

in_head_by : (kind : Bool) (bytes : List ℕ) (place : ℕ) → IsInHeadBy true bytes place → IsInHeadBy false bytes place → IsInHeadBy kind bytes place
in_head_by true bytes place blocks other = blocks
in_head_by false bytes place blocks other = other

pub first_in_head : (held : Option Contents) (name : List ℕ) (place : ℕ) → place < 4 → IsInHead held name place
first_in_head held name place few = by_held held (first_inside held name place few)
  where
    by_held : (h : Option Contents) → IsInHeader h name place → IsInHead h name place
    by_held None i = tt
    by_held (Some m) i = in_head_by (is_pcapng (content m name)) (content m name) place i (omega (arith, few))

pub blocks_in_head : (held : Option Contents) (name : List ℕ) (place : ℕ) → Told held (λ m. true ≡ is_pcapng (content m name)) → IsInHeader held name place → IsInHead held name place
blocks_in_head None name place kind inside = tt
blocks_in_head (Some m) name place kind inside = subst (λ (k : Bool). IsInHeadBy k (content m name) place) kind inside

pub classic_in_head : (held : Option Contents) (name : List ℕ) (place : ℕ) → Told held (λ m. false ≡ is_pcapng (content m name)) → place < 24 → IsInHead held name place
classic_in_head None name place kind few = tt
classic_in_head (Some m) name place kind few = subst (λ (k : Bool). IsInHeadBy k (content m name) place) kind few

-- the same files
pub header_moved : (before after : Option Contents) (name : List ℕ) (place : ℕ) → before ≡ after → IsInHeader before name place → IsInHeader after name place
header_moved before after name place same inside = subst (λ (h : Option Contents). IsInHeader h name place) same inside

-- a classic header that is refused
pub classic_refused : (before held : Option Contents) (name : List ℕ) (result : Result Reader CaptureError) (error : CaptureError) → before ≡ held → result ≡ Err error →
    Told held (λ m. false ≡ is_pcapng (content m name)) → Told before (λ m. classic.Opens (Err error) (content m name)) → Told held (λ m. OpensEither result (content m name))
classic_refused before held name result error same is kind told =
    by_held held kind (subst (λ (h : Option Contents). Told h (λ m. classic.Opens (Err error) (content m name))) same told)
  where
    by_held : (h : Option Contents) → Told h (λ m. false ≡ is_pcapng (content m name)) → Told h (λ m. classic.Opens (Err error) (content m name)) → Told h (λ m. OpensEither result (content m name))
    by_held None k t = tt
    by_held (Some m) k t =
        subst (λ (r : Result Reader CaptureError). OpensEither r (content m name)) (sym is)
        (subst (λ (b : Bool). RefusesBy error b (content m name)) k t)

-- whichever reader it is, something is left
pub some_either : ((r : ClassicReader) (bytes : List ℕ) (number : ℕ) → (rs : List Rec) × (ending : Option CaptureBad) × classic.left_of r bytes number rs ending) →
    ((s : Standing) (bytes : List ℕ) (number : ℕ) → (rs : List Rec) × (ending : Option CaptureBad) × left_of s.seen bytes number rs ending) →
    (r : Reader) (bytes : List ℕ) (number : ℕ) → (rs : List Rec) × (ending : Option CaptureBad) × left_either r bytes number rs ending
some_either records blocks (reader.Classic r) bytes number = records r bytes number
some_either records blocks (reader.Blocks s) bytes number = blocks s bytes number
