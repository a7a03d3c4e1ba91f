-- Records that are taken off the front of a piece, one more.
use Rattle.std.proofs.Common.{◌≡◌, ℕ, ◌+◌, ◌-◌, ◌^◌, ◌<◌, ◌≤◌, ◌==◌, nat_lt, Bool, false, List, [], ◌∷◌, ◌++◌, length, take, drop, map, All, get_or, Ok, refl, sym, ◌∙◌, ap, subst, append_assoc, arith}
use Rattle.std.proofs.lemmas.List.{drop-drop, length-append, length-drop, length-map, length-take-le, map-append, take_rest}
use Rattle.std.proofs.lemmas.List.Elements.{All-append, All-nil}
use Rattle.std.proofs.lemmas.List.Sums.{sum_by-append}
use Rattle.std.proofs.Math.Seq.{take-append_seam}
use Rattle.std.proofs.lemmas.Bool.{true≢false}
use Rattle.std.proofs.lemmas.Bool.Decides.{nat_tests}
use Rattle.capture_io.specs.declared.forms.Next.TheVariants as next
use Rattle.capture_io.specs.declared.forms.Rec.{Rec}
use Rattle.capture_io.specs.declared.fronts.Front.{Front}
use Rattle.capture_io.specs.declared.fronts.Front.TheVariants as front
use Rattle.capture_io.specs.declared.record.Head.{Head}
use Rattle.capture_io.specs.declared.records.Place.{Place}
use Rattle.capture_io.specs.Capture.{Splits}
use Rattle.capture_io.specs.Fronts.{IsFront, Tells, front_in, is_more, place_behind, rec_at}
use Rattle.capture_io.specs.Record.{next_in}
use Rattle.capture_io.specs.Records.{IsWithin, placed}
use Rattle.capture_io.specs.Rounds.{Precedes, all_but_last, bytes_captured}
use Rattle.capture_io.specs.Taken.{AreTaken, left_at}
use Rattle.capture_io.proofs.RecordLemmas.{continued}
use Rattle.capture_io.proofs.WindowLemmas.{IsWhole, front_behind, front_told, whole_front}

one_all : {X : Type 0} (P : X → Type 0) (x : X) → P x → All P (x ∷ [])
one_all P x p = λ k d within. let first : k ≡ 0 = omega arith in subst (λ (i : ℕ). P (get_or (x ∷ []) i d)) (sym first) p

-- a property of all and of one more
pub all_more : {X : Type 0} (P : X → Type 0) (xs : List X) (x : X) → All P xs → P x → All P (xs ++ x ∷ [])
all_more P xs x each p = All-append P xs (x ∷ []) each (one_all P x p)

pub length_more : {X : Type 0} (xs : List X) (x : X) → length (xs ++ x ∷ []) ≡ length xs + 1
length_more xs x = length-append xs (x ∷ [])

pub but_last : (rs : List Rec) (r : Rec) → all_but_last (rs ++ r ∷ []) ≡ rs
but_last rs r =
    let size : length (rs ++ r ∷ []) - 1 ≡ length rs = omega (arith, length_more rs r) in
    ap (λ n. take n (rs ++ r ∷ [])) size ∙ take-append_seam rs (r ∷ [])

pub captured_more : (rs : List Rec) (r : Rec) → bytes_captured (rs ++ r ∷ []) ≡ bytes_captured rs + length r.bytes
captured_more rs r = sum_by-append (λ (x : Rec). length x.bytes) rs (r ∷ []) ∙ ap (λ n. bytes_captured rs + n) (omega arith)

-- one more record goes behind those before it
precedes_more : (big : Bool) (all : List ℕ) (at used number nth size : ℕ) (rs : List Rec) (r : Rec) →
    Precedes (left_at big at) (left_at big (at + used)) all number rs nth → next_in big (drop (at + used) all) (at + used) nth ≡ Ok (next.Rec r) →
    r.next_at ≡ at + used + 16 + length r.bytes → size ≡ used + 16 + length r.bytes →
    Precedes (left_at big at) (left_at big (at + size)) all number (rs ++ r ∷ []) (nth + 1)
precedes_more big all at used number nth size rs r before found n s = λ more e splits.
    let place : at + size ≡ r.next_at = omega arith in
    let P : ℕ → Type 0 = λ k. Splits big (drop k all) k (nth + 1) more e in
    let Q : List Rec → Type 0 = λ l. Splits big (drop at all) at number l e in
    subst Q (sym (append_assoc rs (r ∷ []) more)) (before (r ∷ more) e (continued big all (at + used) nth r found n more e (subst P place splits)))

-- the record of a header, as its place in the buffer has it
same_place : (piece : List ℕ) (used here : ℕ) (head : Head) → rec_at here (drop used piece) head ≡ placed piece (place_behind head used here)
same_place piece used here head = λ i. record {
  seconds = head.seconds;
  fraction = head.fraction;
  bytes = take head.captured (drop-drop 16 used piece i);
  next_at = here + 16 + head.captured;
}

found_record : (big : Bool) (piece : List ℕ) (last : Bool) (all : List ℕ) (at used nth : ℕ) (head : Head) → used ≤ length piece → IsFront piece last (drop at all) →
    front_in big (drop used piece) last (at + used) nth ≡ front.Whole head → next_in big (drop (at + used) all) (at + used) nth ≡ Ok (next.Rec (placed piece (place_behind head used (at + used))))
found_record big piece last all at used nth head within f e =
    let P : Front → Type 0 = λ x. Tells (at + used) (drop used piece) x (next_in big (drop (at + used) all) (at + used) nth) in
    subst P e (front_told big (drop used piece) last (drop (at + used) all) (at + used) nth (front_behind piece all last at used within f))
    ∙ ap (λ r. Ok (next.Rec r)) (same_place piece used (at + used) head)

pub taken_none : (big : Bool) (piece : List ℕ) (last : Bool) (at number most : ℕ) → number ≤ 2 ^ 31 → 1 ≤ most → AreTaken big piece last at number most [] 0 number 0
taken_none big piece last at number most few some = record {
  follows = λ bytes f rs e splits. let P : ℕ → Type 0 = λ k. Splits big (drop k bytes) k number rs e in subst P (omega arith) splits;
  numbered = omega arith;
  few = few;
  room = omega arith;
  inside = omega arith;
  count = omega arith;
  captured = refl;
  within = omega arith;
  placed = All-nil (λ r. r.next_at ≤ at + 0);
  sizes = All-nil (λ r. length r.bytes ≤ 262144);
}

module _ (big : Bool) (piece : List ℕ) (last : Bool) (at number most : ℕ) (places : List Place) (used nth total : ℕ) (head : Head)
    (t : AreTaken big piece last at number most (map (placed piece) places) used nth total)
    (e : front_in big (drop used piece) last (at + used) nth ≡ front.Whole head) where
  abbrev pub place : Place
  place = place_behind head used (at + used)

  abbrev pub rs : List Rec
  rs = map (placed piece) places

  abbrev pub r : Rec
  r = placed piece place

  whole : IsWhole big (drop used piece) nth head
  whole = whole_front big (drop used piece) last (at + used) nth head e

  pub small : head.captured ≤ 262144
  small = let size : nat_lt 262144 head.captured ≡ false = whole.size in grind (arith, nat_tests)

  pub there : used + 16 + head.captured ≤ length piece
  there = let size : nat_lt (length (drop used piece)) (16 + head.captured) ≡ false = whole.there in
      let enough : 16 + head.captured ≤ length (drop used piece) = grind (arith, nat_tests) in
      omega (arith, length-drop used piece, t.inside)

  pub counted : nth < 2 ^ 31
  counted = let test : (nth == 2 ^ 31) ≡ false = whole.number_in in let few : nth ≤ 2 ^ 31 = t.few in grind (arith, nat_tests)

  size : length r.bytes ≡ head.captured
  size =
      let stands : length (take head.captured (drop (used + 16) piece)) ≡ head.captured =
      length-take-le head.captured (drop (used + 16) piece) (omega (arith, length-drop (used + 16) piece, there)) in
      stands

  pub taken_more : length places < 16384 → total < most →
      AreTaken big piece last at number most (map (placed piece) (places ++ place ∷ [])) (used + 16 + head.captured) (nth + 1) (total + head.captured)
  taken_more few less =
      let same : map (placed piece) (places ++ place ∷ []) ≡ rs ++ r ∷ [] = map-append (placed piece) places (place ∷ []) in
      let longer : length (rs ++ r ∷ []) ≡ length rs + 1 = length_more rs r in
      let as_many : length rs ≡ length places = length-map places (placed piece) in
      let P : List Rec → Type 0 = λ l. AreTaken big piece last at number most l (used + 16 + head.captured) (nth + 1) (total + head.captured) in
      subst P (sym same) (record {
        follows = λ bytes f. precedes_more big bytes at used number nth (used + 16 + head.captured) rs r (t.follows bytes f)
            (found_record big piece last bytes at used nth head t.inside f e) (omega (arith, size)) (omega (arith, size));
        numbered = omega (arith, t.numbered, longer);
        few = omega (arith, counted);
        room = omega (arith, t.room, longer, small);
        inside = there;
        count = omega (arith, longer, as_many, few);
        captured = omega (arith, t.captured, captured_more rs r, size);
        within = let all : bytes_captured (all_but_last (rs ++ r ∷ [])) ≡ bytes_captured rs = ap bytes_captured (but_last rs r) in omega (arith, all, t.captured, less);
        placed = all_more (λ x. x.next_at ≤ at + (used + 16 + head.captured)) rs r (λ k d in_rs. omega (arith, t.placed k d in_rs)) (omega arith);
        sizes = all_more (λ x. length x.bytes ≤ 262144) rs r t.sizes (omega (arith, size, small));
      })

  -- the same, as the code pushes it and counts
  pub pushed_taken : (pushed : List Place) (pl : Place) (more : ℕ) → pushed ≡ places ++ pl ∷ [] → pl ≡ place → length places < 16384 → total < most → more ≡ nth + 1 →
      AreTaken big piece last at number most (map (placed piece) pushed) (used + (16 + head.captured)) more (total + head.captured)
  pushed_taken pushed pl more items is few less next =
      let P : List Place → ℕ → ℕ → Type 0 = λ l n m. AreTaken big piece last at number most (map (placed piece) l) n m (total + head.captured) in
      let same : places ++ place ∷ [] ≡ pushed = ap (λ (x : Place). places ++ x ∷ []) (sym is) ∙ sym items in
      let far : used + 16 + head.captured ≡ used + (16 + head.captured) = omega arith in
      subst (λ (m : ℕ). P pushed (used + (16 + head.captured)) m) (sym next)
      (subst (λ (n : ℕ). P pushed n (nth + 1)) far (subst (λ (l : List Place). P l (used + 16 + head.captured) (nth + 1)) same (taken_more few less)))

  pub pushed_within : (pushed : List Place) (pl : Place) → pushed ≡ places ++ pl ∷ [] → pl ≡ place → All (IsWithin piece) places → All (IsWithin piece) pushed
  pushed_within pushed pl items is each =
      let same : places ++ place ∷ [] ≡ pushed = ap (λ (x : Place). places ++ x ∷ []) (sym is) ∙ sym items in
      let P : List Place → Type 0 = λ l. All (IsWithin piece) l in
      subst P same (all_more (IsWithin piece) places place each there)

-- the front of the rest of a piece, as the code has it
pub front_of_rest : (big : Bool) (piece : List ℕ) (last : Bool) (at used nth : ℕ) (said : Front) →
    front_in big (take (length piece - used) (drop used piece)) last (at + used) nth ≡ said → front_in big (drop used piece) last (at + used) nth ≡ said
front_of_rest big piece last at used nth said e = ap (λ (l : List ℕ). front_in big l last (at + used) nth) (sym (take_rest piece used)) ∙ e

-- what it says under a number that is the same
pub renumbered : (big : Bool) (piece : List ℕ) (last : Bool) (at used nth mth : ℕ) (said : Front) → nth ≡ mth →
    front_in big (take (length piece - used) (drop used piece)) last (at + used) nth ≡ said → front_in big (take (length piece - used) (drop used piece)) last (at + used) mth ≡ said
renumbered big piece last at used nth mth said same e = ap (λ (n : ℕ). front_in big (take (length piece - used) (drop used piece)) last (at + used) n) (sym same) ∙ e

pub said_at : (big : Bool) (piece : List ℕ) (last : Bool) (all : List ℕ) (at used nth : ℕ) (said : Front) → used ≤ length piece → IsFront piece last (drop at all) →
    front_in big (take (length piece - used) (drop used piece)) last (at + used) nth ≡ said → Tells (at + used) (drop used piece) said (next_in big (drop (at + used) all) (at + used) nth)
said_at big piece last all at used nth said within f e =
    let P : Front → Type 0 = λ x. Tells (at + used) (drop used piece) x (next_in big (drop (at + used) all) (at + used) nth) in
    subst P (front_of_rest big piece last at used nth said e) (front_told big (drop used piece) last (drop (at + used) all) (at + used) nth (front_behind piece all last at used within f))

-- where the front of the rest is open and that of the piece was not, some were taken
pub some_taken : (big : Bool) (piece : List ℕ) (last : Bool) (at number most used nth total : ℕ) (places : List Place) →
    AreTaken big piece last at number most (map (placed piece) places) used nth total → is_more (front_in big piece last at number) ≡ false →
    front_in big (take (length piece - used) (drop used piece)) last (at + used) nth ≡ front.More → 0 < length places
some_taken big piece last at number most used nth total [] t decided e =
    let none : used ≡ 0 = omega (arith, t.room) in
    let same : nth ≡ number = omega (arith, t.numbered) in
    let P : ℕ → ℕ → Type 0 = λ u n. front_in big (drop u piece) last (at + u) n ≡ front.More in
    let at_used : P used nth = front_of_rest big piece last at used nth front.More e in
    let at_number : P used number = subst (λ (n : ℕ). P used n) same at_used in
    let at_start : P 0 number = subst (λ (u : ℕ). P u number) none at_number in
    let here : at + 0 ≡ at = omega arith in
    let Q : ℕ → Type 0 = λ k. front_in big piece last k number ≡ front.More in
    let more : front_in big piece last at number ≡ front.More = subst Q here at_start in
    absurd (true≢false (sym (ap is_more more) ∙ decided))
some_taken big piece last at number most used nth total (p ∷ ps) t decided e = omega arith
