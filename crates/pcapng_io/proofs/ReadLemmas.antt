-- A block at the front of the bytes that were read, and the places where more is read.
use Rattle.std.proofs.Common.{◌≡◌, ℕ, ◌+◌, ◌-◌, ◌^◌, ◌<◌, ◌≤◌, nat_lt, Bool, true, false, if◌then◌else◌, List, [], length, drop, Option, Some, None, Ok, Err, refl, sym, ◌∙◌, ap, subst, arith}
use Rattle.std.proofs.lemmas.Bool.{true≢false}
use Rattle.std.proofs.lemmas.Bool.Decides.{nat_tests}
use Rattle.aftr_io.specs.Contents.{Contents, content, Told}
use Rattle.capture_io.specs.declared.forms.CaptureBad.TheVariants as bad
use Rattle.capture_io.specs.declared.forms.Rec.{Rec}
use Rattle.capture_io.specs.declared.ng_bad.NgBad.TheVariants as ng
use Rattle.capture_io.specs.Fronts.{IsFront}
use Rattle.capture_io.proofs.LawLemmas.{front_behind}
use Rattle.pcapng_io.specs.declared.block.Block.{Block}
use Rattle.pcapng_io.specs.declared.block.Block.TheVariants as block
use Rattle.pcapng_io.specs.declared.block.Known.{Known}
use Rattle.pcapng_io.specs.declared.block.Packet.{Packet}
use Rattle.pcapng_io.specs.declared.block.Passed.{Passed}
use Rattle.pcapng_io.specs.declared.fronts.Front.{Front}
use Rattle.pcapng_io.specs.declared.fronts.Front.TheVariants as front
use Rattle.pcapng_io.specs.Seen.{Seen}
use Rattle.pcapng_io.specs.Blocks.{block_in, known_after, record_of, size_of}
use Rattle.pcapng_io.specs.Files.{IsBefore, IsInBlock, IsSoundPacket, left_at}
use Rattle.pcapng_io.specs.Long.{IsInLong, StandsBy, WithFront}
use Rattle.pcapng_io.specs.Fronts.{front_in}
use Rattle.capture_io.specs.Windows.{Ahead, IsAtFront, IsMore}
use Rattle.pcapng_io.proofs.StartLemmas.{IsShort, Tells, at_start, front_said, front_told, open_block, open_short}
use Rattle.pcapng_io.proofs.WalkLemmas.{after_at, sized}

-- before anything was read
pub none_read : (held : Option Contents) (name : List ℕ) (at : ℕ) → IsAtFront held name at (record { bytes = []; last = false })
none_read None name at = tt
none_read (Some m) name at = record { start = refl; whole = λ h. absurd (true≢false (sym h)) }

-- what the front says, as the code has the bytes
pub said_of : (seen : Seen) (window : Ahead) (number : ℕ) (slice : List ℕ) (last : Bool) (result it : Front) → slice ≡ window.bytes → last ≡ window.last →
    result ≡ front_in seen slice last number → result ≡ it → front_in seen window.bytes window.last number ≡ it
said_of seen window number slice last result it bytes end says is =
    (λ i. front_in seen (sym bytes i) (sym end i) number) ∙ (sym says ∙ is)

-- the front says it of the file
pub told_at : (held : Option Contents) (name : List ℕ) (seen : Seen) (window : Ahead) (number : ℕ) (f : Front) → IsAtFront held name seen.known.at window →
    front_in seen window.bytes window.last number ≡ f → Told held (λ m. Tells f (block_in seen (left_at m name seen.known.at) number))
told_at None name seen window number f stands e = tt
told_at (Some m) name seen window number f stands e =
    subst (λ (x : Front). Tells x (block_in seen (left_at m name seen.known.at) number)) e
    (front_told seen window.bytes window.last (left_at m name seen.known.at) number stands)

near_by : (seen : Seen) (left : List ℕ) (number : ℕ) (b : Block) → block_in seen left number ≡ Ok b → seen.known.at ≤ 2 ^ 62
near_by seen left number b e = by_far (nat_lt (2 ^ 62) seen.known.at) refl
  where
    by_far : (far : Bool) → nat_lt (2 ^ 62) seen.known.at ≡ far → seen.known.at ≤ 2 ^ 62
    by_far true n = let none : block_in seen left number ≡ Err (bad.Ng (ng.Far seen.known.at)) = rw n refl in absurd (cc)
    by_far false n = grind (arith, nat_tests)

-- a block that is told lies in front of the last place, and is there
module _ (seen : Seen) (window : Ahead) (number : ℕ) where
  pub end_near : front_in seen window.bytes window.last number ≡ front.End → seen.known.at ≤ 2 ^ 62
  end_near e = near_by seen window.bytes number block.End (front_said seen window.bytes window.last number front.End e)

  pub packet_near : (p : Packet) → front_in seen window.bytes window.last number ≡ front.Packet p → (seen.known.at ≤ 2 ^ 62) × (p.total ≤ length window.bytes)
  packet_near p e =
      let size = sized seen window.bytes number (block.Packet p) tt (front_said seen window.bytes window.last number (front.Packet p) e) in
      (size.near, size.whole)

  pub passed_near : (p : Passed) → front_in seen window.bytes window.last number ≡ front.Passed p → (seen.known.at ≤ 2 ^ 62) × (size_of p ≤ length window.bytes)
  passed_near p e =
      let size = sized seen window.bytes number (block.Passed p) tt (front_said seen window.bytes window.last number (front.Passed p) e) in
      (size.near, size.whole)

  pub more_short : front_in seen window.bytes window.last number ≡ front.More → IsShort seen window.bytes window.last
  more_short e = open_short seen window.bytes window.last number e

  -- the place behind the bytes is one of the block that stands there
  pub more_inside : (held : Option Contents) (name : List ℕ) → IsAtFront held name seen.known.at window → front_in seen window.bytes window.last number ≡ front.More →
      (place : ℕ) → place ≡ seen.known.at + length window.bytes → IsInBlock held name seen number place
  more_inside None name stands e place is = (omega arith, tt)
  more_inside (Some m) name stands e place is = (
    omega arith,
    λ b told.
        let P : ℕ → Type 0 = λ n. IsBefore n seen.known.at b in
        subst P (sym is) (open_block seen window.bytes (left_at m name seen.known.at) window.last number b (more_short e) stands.start told),
  )

-- more was read behind the bytes
pub more_read : (held after : Option Contents) (name : List ℕ) (at : ℕ) (before now : Ahead) → after ≡ held → IsAtFront held name at before → IsMore after name at before now → IsAtFront held name at now
more_read held after name at before now same stands read = by_held held stands (subst (λ (h : Option Contents). IsMore h name at before now) same read)
  where
    by_held : (h : Option Contents) → IsAtFront h name at before → IsMore h name at before now → IsAtFront h name at now
    by_held None s r = tt
    by_held (Some m) s r = r s.start

-- the bytes behind a block are the first of what is left behind it
behind_block : (held : Option Contents) (name : List ℕ) (known now : Known) (p : Passed) (window rest : Ahead) → IsAtFront held name known.at window → size_of p ≤ length window.bytes →
    rest.bytes ≡ drop (size_of p) window.bytes → rest.last ≡ window.last → now ≡ known_after known p → IsAtFront held name now.at rest
behind_block None name known now p window rest stands there bytes last is = tt
behind_block (Some m) name known now p window rest stands there bytes last is =
    let all : List ℕ = content m name in
    let at : known.at + size_of p ≡ now.at = sym (ap (λ (k : Known). k.at) is ∙ after_at known p) in
    let front_is : IsFront (drop (size_of p) window.bytes) window.last (drop (known.at + size_of p) all) = front_behind window.bytes all window.last known.at (size_of p) there stands in
    let P : List ℕ → Bool → ℕ → Type 0 = λ l b n. IsFront l b (drop n all) in
    subst (λ (l : List ℕ). P l rest.last now.at) (sym bytes)
    (subst (λ (b : Bool). P (drop (size_of p) window.bytes) b now.at) (sym last)
    (subst (λ (n : ℕ). P (drop (size_of p) window.bytes) window.last n) at front_is))

-- a packet's record is the same of the first bytes and of all
pub record_there : (held : Option Contents) (name : List ℕ) (known : Known) (p : Packet) (window : Ahead) → IsAtFront held name known.at window → p.start + p.count ≤ length window.bytes →
    Told held (λ m. record_of known window.bytes p ≡ record_of known (left_at m name known.at) p)
record_there None name known p window stands there = tt
record_there (Some m) name known p window stands there =
    let same = sym (at_start window.bytes (left_at m name known.at) p.start p.count stands.start there) in
    λ i. record { seconds = p.seconds; fraction = p.nanos; bytes = same i; next_at = known.at + p.total }

-- less is missing behind a read
abbrev one_if : Bool → ℕ
one_if last = if last then 1 else 0

pub read_smaller : (seen : Seen) (window : Ahead) (number : ℕ) (now : Ahead) → front_in seen window.bytes window.last number ≡ front.More → length window.bytes < 2 ^ 32 →
    (now.last ≡ false → length window.bytes < length now.bytes) → length window.bytes ≤ length now.bytes →
    2 ^ 32 + 1 - (length now.bytes + one_if now.last) < 2 ^ 32 + 1 - (length window.bytes + one_if window.last)
read_smaller seen window number now e few longer least = by_last now.last refl (ap one_if (more_short seen window number e).more)
  where
    by_last : (last : Bool) → now.last ≡ last → one_if window.last ≡ 0 → 2 ^ 32 + 1 - (length now.bytes + one_if now.last) < 2 ^ 32 + 1 - (length window.bytes + one_if window.last)
    by_last true is none = let one : one_if now.last ≡ 1 = ap one_if is in omega (arith, few, least, none, one)
    by_last false is none = let zero_is : one_if now.last ≡ 0 = ap one_if is in omega (arith, few, longer is, none, zero_is)

-- the same, where the files hold the same
pub front_moved : (before after : Option Contents) (name : List ℕ) (at : ℕ) (window : Ahead) → before ≡ after → IsAtFront before name at window → IsAtFront after name at window
front_moved before after name at window same stands = subst (λ (h : Option Contents). IsAtFront h name at window) same stands

-- where the window stands behind a block, by what that is
pub behind_packet : (after held : Option Contents) (name : List ℕ) (at : ℕ) (window : Ahead) (b : Block) (p : Packet) → after ≡ held → b ≡ block.Packet p → StandsBy after name at window b →
    IsAtFront held name at window × (p.start + p.count ≤ length window.bytes)
behind_packet after held name at window b p same is stands =
    let S : Block → Type 0 = λ x. StandsBy after name at window x in
    let given : S (block.Packet p) = subst S is stands in
    (subst (λ (h : Option Contents). IsAtFront h name at window) same given.0, given.1)

pub behind_end : (after held : Option Contents) (name : List ℕ) (at : ℕ) (window : Ahead) (b : Block) → after ≡ held → b ≡ block.End → StandsBy after name at window b → IsAtFront held name at window
behind_end after held name at window b same is stands =
    let S : Block → Type 0 = λ x. StandsBy after name at window x in
    let given : S block.End = subst S is stands in
    subst (λ (h : Option Contents). IsAtFront h name at window) same given.0

pub behind_passed : (after held : Option Contents) (name : List ℕ) (known now : Known) (window : Ahead) (b : Block) (p : Passed) → after ≡ held → b ≡ block.Passed p → now ≡ known_after known p → StandsBy after name known.at window b →
    IsAtFront held name now.at window
behind_passed after held name known now window b p same is k stands =
    let S : Block → Type 0 = λ x. StandsBy after name known.at window x in
    let given : S (block.Passed p) = subst S is stands in
    let at : known.at + size_of p ≡ now.at = sym (ap (λ (x : Known). x.at) k ∙ after_at known p) in
    subst (λ (h : Option Contents). IsAtFront h name now.at window) same (subst (λ n. IsAtFront after name n window) at given.0)

-- what is told where the window's bytes stand at a place, and they do
pub at_front : (P : List ℕ → Type 0) (after held : Option Contents) (name : List ℕ) (at : ℕ) (window : Ahead) → after ≡ held → IsAtFront held name at window → WithFront after name at window P → Told held (λ m. P (content m name))
at_front P after held name at window same stands told = by_held held stands (subst (λ (h : Option Contents). WithFront h name at window P) same told)
  where
    by_held : (h : Option Contents) → IsAtFront h name at window → WithFront h name at window P → Told h (λ m. P (content m name))
    by_held None s t = tt
    by_held (Some m) s t = t s

pub long_inside : (after held : Option Contents) (name : List ℕ) (seen : Seen) (number place : ℕ) (window : Ahead) → after ≡ held → IsAtFront held name seen.known.at window → IsInLong after name seen number window place → IsInBlock held name seen number place
long_inside after held name seen number place window same stands within =
    (within.0, at_front (λ all. (b : Block) → block_in seen (drop seen.known.at all) number ≡ Ok b → IsBefore place seen.known.at b) after held name seen.known.at window same stands within.1)

-- what the front says, and where the window then stands
pub packet_stands : (held : Option Contents) (name : List ℕ) (seen : Seen) (window : Ahead) (number : ℕ) (p : Packet) → IsSoundPacket number p → front_in seen window.bytes window.last number ≡ front.Packet p → IsAtFront held name seen.known.at window →
    StandsBy held name seen.known.at window (block.Packet p)
packet_stands held name seen window number p sound e stands = (stands, omega (arith, (packet_near seen window number p e).1, sound.inside))

pub passed_stands : (held : Option Contents) (name : List ℕ) (seen : Seen) (window rest : Ahead) (number : ℕ) (p : Passed) → front_in seen window.bytes window.last number ≡ front.Passed p → IsAtFront held name seen.known.at window →
    rest.bytes ≡ drop (size_of p) window.bytes → rest.last ≡ window.last → StandsBy held name seen.known.at rest (block.Passed p)
passed_stands held name seen window rest number p e stands bytes last =
    let behind : IsAtFront held name (known_after seen.known p).at rest =
    behind_block held name seen.known (known_after seen.known p) p window rest stands (passed_near seen window number p e).1 bytes last refl in
    (subst (λ n. IsAtFront held name n rest) (after_at seen.known p) behind, tt)

pub record_told : (held : Option Contents) (name : List ℕ) (known : Known) (p : Packet) (window : Ahead) (slice : List ℕ) (r : Rec) → IsAtFront held name known.at window → p.start + p.count ≤ length window.bytes →
    slice ≡ window.bytes → r ≡ record_of known slice p → Told held (λ m. r ≡ record_of known (left_at m name known.at) p)
record_told None name known p window slice r stands there same is = tt
record_told (Some m) name known p window slice r stands there same is =
    is ∙ (ap (λ l. record_of known l p) same ∙ record_there (Some m) name known p window stands there)
