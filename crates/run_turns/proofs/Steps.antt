-- What is read, round after round.
use Rattle.run_turns.proofs.Words.{◌≡◌, ◌⊎◌, ℕ, ◌+◌, ◌<◌, ◌≤◌, List, ◌++◌, All, length, inl, inr, arith, append_assoc, Rec, Left, Precedes, View}
use Rattle.run_turns.proofs.Words.{HasWholeShare, IsUpToDate, Suits, Course, Tables, window, IsSettled, NoneIsLeft, WaitsFor}
use Rattle.run_turns.proofs.Elements.{all_before}

pub no_further : (rs : List Rec) (here there : ℕ) → here ≤ there → All (λ r. r.next_at ≤ here) rs → All (λ r. r.next_at ≤ there) rs
no_further rs here there forward each = λ k d within. omega (arith, each k d within, forward)

pub follows_more : (first middle last : Left) (bytes : List ℕ) (number next there : ℕ) (rs ss : List Rec) →
    Precedes first middle bytes number rs next → Precedes middle last bytes next ss there → Precedes first last bytes number (rs ++ ss) there
follows_more first middle last bytes number next there rs ss one two = λ rest e left.
    rw (append_assoc rs ss rest) (one (ss ++ rest) e (two rest e left))

pub suits_before : (plan : Tables) (draws news later : List (ℕ × ℕ)) (c : Course) → later ≡ draws ++ news → Suits plan later c → Suits plan draws c
suits_before plan draws news later c is suits =
    let P : ℕ × ℕ → Type 0 = λ d. c.version d.0 ≡ d.1 in
    record { tables = suits.tables; versions = all_before P draws news (rw (← is) suits.versions) }

pub none_waits : (plan : Tables) (desk : View) (records : ℕ) → desk.plan ≡ plan → NoneIsLeft desk ⊎ WaitsFor desk records →
    (length plan.tables ≤ length desk.points + 1) ⊎ (records < (window plan (length desk.points + 1)).earliest)
none_waits plan desk records same (inl none) = inl (rw (← same) none)
none_waits plan desk records same (inr waits) = inr (rw (← same) waits.1)

-- what is due is in force behind a round
pub none_is_due : (plan : Tables) (seat desk : View) → desk.plan ≡ plan → HasWholeShare seat → IsSettled seat desk →
    IsUpToDate plan (length seat.actor.draws) desk.points
none_is_due plan seat desk same whole settled =
    inr (rw (settled.all_drawn whole) (none_waits plan desk seat.seen.records same settled.none_due))
