-- Which records are limited, round by round and over a whole run.
use Rattle.std.proofs.Common.{◌≡◌, ℕ, zero, suc, ◌+◌, ◌↔◌, Bool, true, false, not, List, [], ◌∷◌, ◌++◌, length, drop, take, get_or, Option, Some, None, slice_get, sym, ◌∙◌, ap, refl, subst, arith, append_assoc, append-nil}
use Rattle.std.specs.Prelude.{replicate}
use Rattle.std.proofs.lemmas.List.{drop_all, drop_at, get_or_append_left, length-append, length-map, map-append, take-append-le}
use Rattle.capture_io.specs.Record.{nanoseconds}
use Rattle.capture_io.specs.declared.forms.Form.{Form}
use Rattle.capture_io.specs.declared.forms.Rec.{Rec}
use Rattle.error_limit.specs.Limits.{Bucket, IsMarked, MayPass}
use Rattle.ip_codec.specs.declared.items.Item.{Item}
use Rattle.item_stage.specs.Items.{items_in}
use Rattle.item_stage.specs.declared.entries.Entry.{Entry}
use Rattle.run_output.specs.Cells.{AreMarked, HasMarked, limited_by, times_by}
use Rattle.run_output.specs.Laws.{LimitsBegin}
use Rattle.run_output.specs.Limiting.{AreSent, HasAsked, IsLimited, Told, WasAsked, passed_in, rate_of, tells, times_of, told_from, told_if}
use Rattle.run_output.specs.Outputs.{Course, verdict_at}
use Rattle.run_output.specs.Rendering.{HasOutcomes, IsCourseOf}
use Rattle.worker_gate.specs.declared.outcomes.Outcome.{Outcome}
use Rattle.run_output.proofs.CourseLemmas.{Matches, matches_of, times_are}

-- the statement of error_limit's law
abbrev pub OneMarking : Type 0
OneMarking = (rate : ℕ) (times : List ℕ) (marks others : List Bool) → IsMarked rate times marks → IsMarked rate times others → marks ≡ others

-- the errors of records, and of those behind them
told_join : (c : Course) (form : Form) (number at : ℕ) (rs ss : List Rec) (es fs : List Entry) → length es ≡ length rs → at ≡ number + length rs →
    told_from c form number (rs ++ ss) (es ++ fs) ≡ told_from c form number rs es ++ told_from c form at ss fs
told_join c form number at [] ss [] fs same is =
    let here : number ≡ at = omega (arith, is) in ap (λ (k : ℕ). told_from c form k ss fs) here
told_join c form number at [] ss (e ∷ es) fs same is = absurd (omega (arith, same))
told_join c form number at (r ∷ rs) ss [] fs same is = absurd (omega (arith, same))
told_join c form number at (r ∷ rs) ss (e ∷ es) fs same is =
    let one : List Told = told_if (tells (verdict_at c number e.item)) number (nanoseconds form r.seconds r.fraction) in
    ap (λ (l : List Told). one ++ l) (told_join c form (number + 1) at rs ss es fs (omega (arith, same)) (omega (arith, is)))
    ∙ sym (append_assoc one (told_from c form (number + 1) rs es) (told_from c form at ss fs))

-- marks of a longer list are marks of its front

marked_front : (rate : ℕ) (xs ys : List ℕ) (ms ns : List Bool) → length ms ≡ length xs → IsMarked rate (xs ++ ys) (ms ++ ns) → IsMarked rate xs ms
marked_front rate xs ys ms ns same marked = record {
  size = same;
  each = λ j inside.
      let here = marked.each j (omega (arith, inside, length-append xs ys)) in
      let P : Bool → List ℕ → List Bool → ℕ → Type 0 = λ b ts bs t. (b ≡ true) ↔ MayPass rate ts bs t in
      let one : P (get_or ms j false) (take j (xs ++ ys)) (take j (ms ++ ns)) (get_or (xs ++ ys) j 0) =
      subst (λ (b : Bool). P b (take j (xs ++ ys)) (take j (ms ++ ns)) (get_or (xs ++ ys) j 0)) (get_or_append_left ms ns false j (omega (arith, inside, same))) here in
      let two : P (get_or ms j false) (take j xs) (take j (ms ++ ns)) (get_or (xs ++ ys) j 0) =
      subst (λ (ts : List ℕ). P (get_or ms j false) ts (take j (ms ++ ns)) (get_or (xs ++ ys) j 0)) (take-append-le j xs ys (omega (arith, inside))) one in
      let three : P (get_or ms j false) (take j xs) (take j ms) (get_or (xs ++ ys) j 0) =
      subst (λ (bs : List Bool). P (get_or ms j false) (take j xs) bs (get_or (xs ++ ys) j 0)) (take-append-le j ms ns (omega (arith, inside, same))) two in
      subst (λ (t : ℕ). P (get_or ms j false) (take j xs) (take j ms) t) (get_or_append_left xs ys 0 j inside) three;
}

all_front : (xs ys : List ℕ) (ms ns : List Bool) → length ms ≡ length xs → ms ++ ns ≡ replicate (length (xs ++ ys)) true → ms ≡ replicate (length xs) true
all_front [] ys [] ns same is = refl
all_front [] ys (m ∷ ms) ns same is = absurd (omega (arith, same))
all_front (x ∷ xs) ys [] ns same is = absurd (omega (arith, same))
all_front (x ∷ xs) ys (m ∷ ms) ns same is =
    let first : m ≡ true = cc is in
    let rest : ms ++ ns ≡ replicate (length (xs ++ ys)) true = cc is in
    let others : ms ≡ replicate (length xs) true = all_front xs ys ms ns (omega (arith, same)) rest in
    λ j. first j ∷ others j

sent_front : (rate : Option ℕ) (xs ys : List ℕ) (ms ns : List Bool) → length ms ≡ length xs → AreSent rate (xs ++ ys) (ms ++ ns) → AreSent rate xs ms
sent_front None xs ys ms ns same are = all_front xs ys ms ns same are
sent_front (Some rate) xs ys ms ns same are = marked_front rate xs ys ms ns same are

-- an error has a mark
pub sent_size : (rate : Option ℕ) (times : List ℕ) (sent : List Bool) → AreSent rate times sent → length sent ≡ length times
sent_size None times sent are = ap length are ∙ all_size times where
  all_size : (times : List ℕ) → length (replicate (length times) true) ≡ length times
  all_size [] = refl
  all_size (t ∷ times) = ap suc (all_size times)
sent_size (Some rate) times sent are = are.size

-- errors have one list of marks
same_sent : OneMarking → (rate : Option ℕ) (times : List ℕ) (a b : List Bool) → AreSent rate times a → AreSent rate times b → a ≡ b
same_sent law None times a b x y = x ∙ sym y
same_sent law (Some rate) times a b x y = law rate times a b x y

pub asked_sent : (limit : Option Bucket) (times : List ℕ) (sent : List Bool) → WasAsked limit times sent → AreSent (rate_of limit) times sent
asked_sent None times sent asked = asked
asked_sent (Some b) times sent asked = asked.marked

got_left : (es others : List Entry) (k : ℕ) (i : Item) → slice_get (items_in es) k ≡ Some i → slice_get (items_in (es ++ others)) k ≡ Some i
got_left [] others k i is = absurd (cc is)
got_left (e ∷ es) others zero i is = is
got_left (e ∷ es) others (suc k) i is = got_left es others k i is

got_right : (es others : List Entry) (k n : ℕ) (i : Item) → n ≡ length es + k → slice_get (items_in others) k ≡ Some i → slice_get (items_in (es ++ others)) n ≡ Some i
got_right [] others k n i at is =
    let here : n ≡ k = omega (arith, at) in subst (λ (m : ℕ). slice_get (items_in others) m ≡ Some i) (sym here) is
got_right (e ∷ es) others k zero i at is = absurd (omega (arith, at))
got_right (e ∷ es) others k (suc n) i at is = got_right es others k n i (omega (arith, at)) is

-- the two lists of a run's errors
times_two : (a b : List Told) → times_of (a ++ b) ≡ times_of a ++ times_of b
times_two a b = map-append (λ t. t.time) a b

passed_two : (c : Course) (a b : List Told) → passed_in c (a ++ b) ≡ passed_in c a ++ passed_in c b
passed_two c a b = map-append (λ t. not (c.limited t.number)) a b

passed_size : (c : Course) (a : List Told) → length (passed_in c a) ≡ length (times_of a)
passed_size c a = length-map a (λ t. not (c.limited t.number)) ∙ sym (length-map a (λ t. t.time))

-- which errors are sent of two lists
two_sent : (rate : Option ℕ) (c : Course) (all a b : List Told) → all ≡ a ++ b → AreSent rate (times_of all) (passed_in c all) →
    AreSent rate (times_of a ++ times_of b) (passed_in c a ++ passed_in c b)
two_sent rate c all a b is are =
    let P : List ℕ → List Bool → Type 0 = λ ts bs. AreSent rate ts bs in
    let here : P (times_of (a ++ b)) (passed_in c (a ++ b)) = subst (λ (l : List Told). AreSent rate (times_of l) (passed_in c l)) is are in
    let there : P (times_of a ++ times_of b) (passed_in c (a ++ b)) = subst (λ (ts : List ℕ). P ts (passed_in c (a ++ b))) (times_two a b) here in
    subst (λ (bs : List Bool). P (times_of a ++ times_of b) bs) (passed_two c a b) there

pub limits_do_begin : LimitsBegin
limits_do_begin rate form rs more es others c same limited =
    let a : List Told = told_from c form 0 rs es in
    let b : List Told = told_from c form (0 + length rs) more others in
    let joined : told_from c form 0 (rs ++ more) (es ++ others) ≡ a ++ b = told_join c form 0 (0 + length rs) rs more es others same refl in
    record {
      errors = λ number i is. limited.errors number i (got_left es others number i is);
      sent = sent_front rate (times_of a) (times_of b) (passed_in c a) (passed_in c b) (passed_size c a)
          (two_sent rate c (told_from c form 0 (rs ++ more) (es ++ others)) a b joined limited.sent);
    }

-- behind lists of one length stand the same
same_behind : (a b x y : List Bool) → length a ≡ length x → a ++ b ≡ x ++ y → b ≡ y
same_behind a b x y same is = sym (drop_at a b (length a) refl) ∙ (ap (drop (length a)) is ∙ drop_at x y (length a) (sym same))

-- what is known at the end of a round
all_marked : (form : Form) (rs : List Rec) (os : List Outcome) (now : Option Bucket) (limited : List Bool) (times : List ℕ) (sent : List Bool) →
    length os ≡ length rs → AreMarked form rs os (length os) now limited times sent →
    (news : List Bool) × WasAsked now (times ++ times_by form rs os) (sent ++ news) × (limited ≡ limited_by os news)
all_marked form rs os now limited times sent same are =
    let no_rec : drop (length os) rs ≡ [] = drop_all (length os) rs (omega (arith, same)) in
    let no_out : drop (length os) os ≡ [] = drop_all (length os) os (omega arith) in
    let told : are.told ≡ times_by form rs os =
    sym (append-nil are.told) ∙ (sym (λ j. are.told ++ times_by form (no_rec j) (no_out j)) ∙ are.told_left) in
    let marks : limited ≡ limited_by os are.news =
    sym (append-nil limited) ∙ (sym (ap (λ l. limited ++ limited_by l []) no_out) ∙ (are.limited_left [] ∙ ap (limited_by os) (append-nil are.news))) in
    (are.news, subst (λ (l : List ℕ). WasAsked now (times ++ l) (sent ++ are.news)) told are.asked, marks)

-- the times of all errors so far, and of those of a round
times_so_far : (c : Course) (form : Form) (taken records : List Rec) (before entries : List Entry) (os : List Outcome) → length before ≡ length taken → length entries ≡ length records → length os ≡ length entries →
    HasOutcomes c (length taken) entries os →
    times_of (told_from c form 0 (taken ++ records) (before ++ entries)) ≡ times_of (told_from c form 0 taken before) ++ times_by form records os
times_so_far c form taken records before entries os counted same many has =
    let a : List Told = told_from c form 0 taken before in
    let b : List Told = told_from c form (length taken) records entries in
    ap times_of (told_join c form 0 (length taken) taken records before entries counted (omega arith))
    ∙ (times_two a b ∙ ap (λ l. times_of a ++ l) (times_are c form (length taken) records entries os same many has))

-- the limiter was asked about the errors of a round too
pub asked_more : (c : Course) (form : Form) (taken records : List Rec) (before entries : List Entry) (os : List Outcome) (old new : Option Bucket) (limited : List Bool) →
    length entries ≡ length records → length os ≡ length entries → IsCourseOf c form taken records before entries os old → HasMarked form records os (length os) old new limited →
    HasAsked form (taken ++ records) (before ++ entries) c new
asked_more c form taken records before entries os old new limited same many course marked =
    let times : List ℕ = times_of (told_from c form 0 taken before) in
    let all = all_marked form records os new limited times course.asked.0 (omega (arith, same, many)) (marked times course.asked.0 course.asked.1) in (
      course.asked.0 ++ all.0,
      subst (λ (l : List ℕ). WasAsked new l (course.asked.0 ++ all.0)) (sym (times_so_far c form taken records before entries os course.counted same many course.outcomes_of)) all.1,
    )

-- the marks of a round are those of the course
pub marks_match : OneMarking → (c : Course) (form : Form) (taken records : List Rec) (before entries : List Entry) (os : List Outcome) (old new : Option Bucket) (limited : List Bool) →
    length entries ≡ length records → length os ≡ length entries → IsCourseOf c form taken records before entries os old →
    IsLimited (rate_of old) form (taken ++ records) (before ++ entries) c → rate_of new ≡ rate_of old → HasMarked form records os (length os) old new limited →
    Matches c (length taken) entries os limited
marks_match law c form taken records before entries os old new limited same many course is rate marked =
    let a : List Told = told_from c form 0 taken before in
    let b : List Told = told_from c form (length taken) records entries in
    let sent : List Bool = course.asked.0 in
    let times : List ℕ = times_of a in
    let all = all_marked form records os new limited times sent (omega (arith, same, many)) (marked times sent course.asked.1) in
    let joined : told_from c form 0 (taken ++ records) (before ++ entries) ≡ a ++ b = told_join c form 0 (length taken) taken records before entries course.counted (omega arith) in
    let theirs : AreSent (rate_of old) (times ++ times_of b) (passed_in c a ++ passed_in c b) = two_sent (rate_of old) c (told_from c form 0 (taken ++ records) (before ++ entries)) a b joined is.sent in
    let ours : AreSent (rate_of old) (times ++ times_of b) (sent ++ all.0) =
    subst (λ (r : Option ℕ). AreSent r (times ++ times_of b) (sent ++ all.0)) rate
    (subst (λ (l : List ℕ). AreSent (rate_of new) (times ++ l) (sent ++ all.0)) (sym (times_are c form (length taken) records entries os same many course.outcomes_of))
    (asked_sent new (times ++ times_by form records os) (sent ++ all.0) all.1)) in
    let equal : sent ++ all.0 ≡ passed_in c a ++ passed_in c b = same_sent law (rate_of old) (times ++ times_of b) (sent ++ all.0) (passed_in c a ++ passed_in c b) ours theirs in
    let size : length sent ≡ length (passed_in c a) = sent_size (rate_of old) times sent (asked_sent old times sent course.asked.1) ∙ sym (passed_size c a) in
    let news : all.0 ≡ passed_in c b = same_behind sent all.0 (passed_in c a) (passed_in c b) size equal in
    let marks : limited ≡ limited_by os (passed_in c b) = all.2 ∙ ap (limited_by os) news in
    subst (λ (l : List Bool). Matches c (length taken) entries os l) (sym marks)
    (matches_of c form (length taken) records entries os same many course.outcomes_of
    (λ k i at. is.errors (length taken + k) i (got_right before entries k (length taken + k) i (omega (arith, course.counted)) at)))
