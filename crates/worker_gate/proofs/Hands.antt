-- Workers whose shares and rooms stay as they are.
use Rattle.std.proofs.Common.{◌≡◌, ℕ, ◌+◌, ◌<◌, ◌≤◌, List, [], ◌∷◌, ◌++◌, All, length, map, sum_by, ap, subst, refl, sym, ◌∙◌, arith, length-append}
use Rattle.std.proofs.Math.ListN.{get_or-map}
use Rattle.std.proofs.lemmas.List.{length-map}
use Rattle.std.proofs.lemmas.List.Elements.{All-head, All-map, All-tail}
use Rattle.std.proofs.lemmas.List.Sums.{sum_by-cons}
use Rattle.worker_gate.specs.declared.worker.Worker.{Worker}
use Rattle.worker_gate.specs.Gathering.{HasRoom, hand_of, shares}

abbrev share_in : ℕ × ℕ → ℕ
share_in h = h.0

shares_are : (ws : List Worker) → shares ws ≡ sum_by share_in (map hand_of ws)
shares_are [] = refl
shares_are (w ∷ ws) =
    sum_by-cons (λ (x : Worker). x.seat.known.share) w ws ∙ ap (λ (n : ℕ). w.seat.known.share + n) (shares_are ws)
    ∙ sym (sum_by-cons share_in (hand_of w) (map hand_of ws))

pub shares_same : (xs ys : List Worker) → map hand_of ys ≡ map hand_of xs → shares ys ≡ shares xs
shares_same xs ys same = shares_are ys ∙ ap (λ (l : List (ℕ × ℕ)). sum_by share_in l) same ∙ sym (shares_are xs)

pub many_same : (xs ys : List Worker) → map hand_of ys ≡ map hand_of xs → length ys ≡ length xs
many_same xs ys same = sym (length-map ys hand_of) ∙ ap (λ (l : List (ℕ × ℕ)). length l) same ∙ length-map xs hand_of

pub rooms_same : (room : ℕ) (xs ys : List Worker) → map hand_of ys ≡ map hand_of xs → All (HasRoom room) xs → All (HasRoom room) ys
rooms_same room xs ys same h k d less =
    let P : ℕ × ℕ → Type 0 = λ x. room ≤ x.1 in
    let L : List (ℕ × ℕ) → Type 0 = λ l. All P l in
    let inside : k < length (map hand_of ys) = omega (arith, less, length-map ys hand_of) in
    subst P (get_or-map hand_of ys k d) (subst L (sym same) (All-map P hand_of xs h) k (hand_of d) inside)

pub first_and_others : (P : Worker → Type 0) (ws : List Worker) (w : Worker) (others : List Worker) → ws ≡ w ∷ others → All P ws → P w × All P others
first_and_others P ws w others is h =
    let L : List Worker → Type 0 = λ l. All P l in
    let all : All P (w ∷ others) = subst L is h in
    (All-head P w others all, All-tail P w others all)

module _ {X : Type 0} where
  pub one_longer : (xs ys : List X) (x : X) → xs ≡ ys ++ x ∷ [] → length xs ≡ length ys + 1
  one_longer xs ys x same = (let L : List X → ℕ = λ l. length l in ap L same ∙ length-append ys (x ∷ []))
