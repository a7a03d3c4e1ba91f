-- To insert a name into the map is to write that file alone.
use Rattle.std.proofs.Common.{◌≡◌, ◌≢◌, Bool, true, false, cond, List, ℕ, [], Some, refl, ◌∙◌, ap, unwrap_or}
use Rattle.std.proofs.lemmas.Cmp.{eq_by_cmp_equiv}
use Rattle.std.specs.Ordering.{nat_cmp, eq_by_cmp}
use Rattle.std.specs.Cmp.{Equal-is}
use Rattle.std.specs.Cmp.Lexicographic.{slice_cmp, nat_list_cmp_total}
use Rattle.std.specs.FinMap.{IsAntisymmetric, get, insert, nat_cmp-IsAntisymmetric, slice_cmp-IsAntisymmetric, get-insert}
use Rattle.aftr_io.specs.Contents.{Contents, content, Writes}

abbrev pub same_name : List ℕ → List ℕ → Bool
same_name = eq_by_cmp (slice_cmp nat_cmp)

pub apart_names : IsAntisymmetric (slice_cmp nat_cmp)
apart_names = slice_cmp-IsAntisymmetric nat_cmp-IsAntisymmetric

pub equal_names : (x y : List ℕ) → same_name x y ≡ true → x ≡ y
equal_names x y e = apart_names x y ((Equal-is (slice_cmp nat_cmp x y)).0 e)

pub same_as_itself : (x : List ℕ) → same_name x x ≡ true
same_as_itself x = (eq_by_cmp_equiv nat_list_cmp_total).refl x

other_name : (b : Bool) → (b ≡ true → ⊥) → b ≡ false
other_name true h = absurd (h refl)
other_name false h = refl

pub different : (x y : List ℕ) → x ≢ y → same_name x y ≡ false
different x y apart = other_name (same_name x y) (λ e. apart (equal_names x y e))

content_insert : (m : Contents) (name bytes q : List ℕ) (b : Bool) → same_name q name ≡ b → content (insert m name bytes) q ≡ unwrap_or (cond b (Some bytes) (get m q)) []
content_insert m name bytes q b e = ap (λ o. unwrap_or o []) (get-insert nat_list_cmp_total m name bytes q ∙ ap (λ t. cond t (Some bytes) (get m q)) e)

pub insert_writes : (m n : Contents) (name bytes : List ℕ) → n ≡ insert m name bytes → Writes m n name bytes
insert_writes m n name bytes is = record {
  here = ap (λ h. content h name) is ∙ content_insert m name bytes name true (same_as_itself name);
  others = λ other apart. ap (λ h. content h other) is ∙ content_insert m name bytes other false (different other name apart);
}
