-- The plan of the loads that were read, in the words of what their files say.
use Rattle.lwaftr_engine.proofs.Words.{◌≡◌, ℕ, cond, count_by, zero, suc, ◌+◌, ◌<◌, List, [], ◌∷◌, ◌++◌, length, get_or, Ok, Err, refl, ap, arith}
use Rattle.lwaftr_engine.proofs.Words.{slice_index_or, Contents, LoadWords, BindingTable, sum_by-cons, RunJob, AreNumbered, AreSlotsOf, is_table, AreFitFor}
use Rattle.lwaftr_engine.proofs.Words.{AreLoadsOf, some_slot_refused, IsPlanOf, Answer, AreAnswers, slots_in, some_refused, table_by, tables_in, windows_in}
use Rattle.lwaftr_engine.proofs.Words.{accepted, slot_of, slots_from, window_in, windows_read, words_in, words_read, IsLoadedAs, Load, Loaded, Slot, Tables}
use Rattle.lwaftr_engine.proofs.Words.{Window, IsCompiled}
use Rattle.reload_plan.specs.declared.loads.Loaded.TheVariants as loaded
use Rattle.reload_plan.specs.declared.loads.Slot.TheVariants as slot

-- loads, each as its answer says
abbrev pub AreLoadedAs : List Answer → List Load → Type 0
AreLoadedAs [] [] = Unit {0}
AreLoadedAs (a ∷ answers) (l ∷ ls) = IsLoadedAs a l.loaded × AreLoadedAs answers ls
AreLoadedAs _ _ = ⊥

-- what the loads' files say
pub answers_of : (m : Contents) (ws : List LoadWords) (ls : List Load) → AreLoadsOf m ws ls →
    (answers : List Answer) × AreAnswers m ws answers × AreLoadedAs answers ls
answers_of m [] [] h = ([], tt, tt)
answers_of m (w ∷ ws) (l ∷ ls) h =
    let rest = answers_of m ws ls h.1 in
    (h.0.answer ∷ rest.0, (h.0.says, rest.1), (h.0.is, rest.2))
answers_of m _ _ h = absurd h

slot_step : (before : ℕ) (a : Answer) (x : Loaded) (rest : List Load) (answers : List Answer) → IsLoadedAs a x →
    ((n : ℕ) → slots_from n rest ≡ slots_in n answers) →
    slot_of x (before + 1) ∷ slots_from (before + length (words_in x)) rest ≡ slots_in before (a ∷ answers)
slot_step before (Ok t) (loaded.Words words) rest answers is later = ap (λ (l : List Slot). slot.Version (before + 1) ∷ l) (later (before + 1))
slot_step before (Err refusal) (loaded.Refused cause) rest answers is later =
    let none : before + 0 ≡ before = omega arith in
    cc (none, later before, is)
slot_step before _ _ rest answers is later = absurd is

pub slots_are : (answers : List Answer) (ls : List Load) → AreLoadedAs answers ls → (before : ℕ) → slots_from before ls ≡ slots_in before answers
slots_are [] [] h before = refl
slots_are (a ∷ answers) (l ∷ ls) h before = slot_step before a l.loaded ls answers h.0 (λ n. slots_are answers ls h.1 n)
slots_are _ _ h before = absurd h

window_step : (a : Answer) (x : Loaded) (w : LoadWords) (window : Window) (rest : List Window) (ws : List LoadWords) (answers : List Answer) → IsLoadedAs a x →
    window ≡ w.window →
    rest ≡ windows_in ws answers → window_in window x ++ rest ≡ windows_in (w ∷ ws) (a ∷ answers)
window_step (Ok t) (loaded.Words words) w window rest ws answers is same later = λ i. same i ∷ later i
window_step (Err refusal) (loaded.Refused cause) w window rest ws answers is same later = later
window_step _ _ w window rest ws answers is same later = absurd is

pub windows_are : (answers : List Answer) (ws : List LoadWords) (ls : List Load) → AreFitFor ws ls → AreLoadedAs answers ls →
    windows_read ls ≡ windows_in ws answers
windows_are [] [] [] fit h = refl
windows_are (a ∷ answers) [] [] fit h = absurd h
windows_are [] (w ∷ ws) (l ∷ ls) fit h = absurd h
windows_are (a ∷ answers) (w ∷ ws) (l ∷ ls) fit h =
    window_step a l.loaded w l.window (windows_read ls) ws answers h.0 fit.0.window (windows_are answers ws ls fit.1 h.1)
windows_are _ _ _ fit h = absurd fit

-- each table has its words
abbrev AreEach : List BindingTable → List (List ℕ) → Type 0
AreEach ts words = (version : ℕ) (d : BindingTable) → version < length words → IsCompiled (get_or ts version d) (slice_index_or words version [])

each_more : (t : BindingTable) (ts : List BindingTable) (w : List ℕ) (words : List (List ℕ)) → IsCompiled t w → AreEach ts words → AreEach (t ∷ ts) (w ∷ words)
each_more t ts w words one each zero d inside = one
each_more t ts w words one each (suc version) d inside = each version d (omega (arith, inside))

each_step : (a : Answer) (x : Loaded) (ts : List BindingTable) (answers : List Answer) (words : List (List ℕ)) → IsLoadedAs a x →
    AreEach (tables_in answers) words → AreEach (tables_in (a ∷ answers)) (words_in x ++ words)
each_step (Ok t) (loaded.Words w) ts answers words is each = each_more t (tables_in answers) w words is each
each_step (Err refusal) (loaded.Refused cause) ts answers words is each = each
each_step _ _ ts answers words is each = absurd is

each_table : (answers : List Answer) (ls : List Load) → AreLoadedAs answers ls → AreEach (tables_in answers) (words_read ls)
each_table [] [] h = λ version d inside. absurd (omega (arith, inside))
each_table (a ∷ answers) (l ∷ ls) h = each_step a l.loaded (tables_in answers) answers (words_read ls) h.0 (each_table answers ls h.1)
each_table _ _ h = absurd h

-- as many windows as tables behind the first
count_step : (x : Loaded) (window : Window) (words : List (List ℕ)) (windows : List Window) → length words ≡ length windows →
    length (words_in x ++ words) ≡ length (window_in window x ++ windows)
count_step (loaded.Words w) window words windows same = ap suc same
count_step (loaded.Refused cause) window words windows same = same

counts : (ls : List Load) → length (words_read ls) ≡ length (windows_read ls)
counts [] = refl
counts (l ∷ ls) = count_step l.loaded l.window (words_read ls) (windows_read ls) (counts ls)

pub plan_is : (first : BindingTable) (words : List ℕ) (answers : List Answer) (ws : List LoadWords) (ls : List Load) (p : Tables) → IsCompiled first words →
    p ≡ accepted words ls →
    AreFitFor ws ls → AreLoadedAs answers ls → IsPlanOf (table_by first answers) (windows_in ws answers) p
plan_is first words answers ws ls p compiled is fit h =
    let windows = windows_are answers ws ls fit h in
    rw is (record {
      same_windows = windows;
      count = omega (arith, counts ls, ap (λ (l : List Window). length l) windows);
      compiled = λ version inside. each_more first (tables_in answers) words (words_read ls) compiled (each_table answers ls h) version first inside;
    })

pub refused_are : (answers : List Answer) (before : ℕ) → some_slot_refused (slots_in before answers) ≡ some_refused answers
refused_are [] before = refl
refused_are (Ok t ∷ answers) before = refused_are answers (before + 1)
refused_are (Err refusal ∷ answers) before = refl

-- the versions of the loads are counted, and each has its window
numbered_in : (before : ℕ) (answers : List Answer) → AreNumbered before (slots_in before answers)
numbered_in before [] = tt
numbered_in before (Ok t ∷ answers) = (refl, numbered_in (before + 1) answers)
numbered_in before (Err refusal ∷ answers) = numbered_in before answers

windows_count : (m : Contents) (ws : List LoadWords) (answers : List Answer) (before : ℕ) → AreAnswers m ws answers →
    length (windows_in ws answers) ≡ count_by is_table (slots_in before answers)
windows_count m [] [] before are = refl
windows_count m (w ∷ ws) (Ok t ∷ answers) before are =
    omega (
      arith,
      windows_count m ws answers (before + 1) are.1,
      sum_by-cons (λ (s : Slot). cond (is_table s) 1 0) (slot.Version (before + 1))
          (slots_in (before + 1) answers),
    )
windows_count m (w ∷ ws) (Err refusal ∷ answers) before are =
    omega (arith, windows_count m ws answers before are.1, sum_by-cons (λ (s : Slot). cond (is_table s) 1 0) (slot.Refused refusal) (slots_in before answers))
windows_count m _ _ before are = absurd are

slots_count : (m : Contents) (ws : List LoadWords) (answers : List Answer) (before : ℕ) → AreAnswers m ws answers → length (slots_in before answers) ≡ length ws
slots_count m [] [] before are = refl
slots_count m (w ∷ ws) (Ok t ∷ answers) before are = ap suc (slots_count m ws answers (before + 1) are.1)
slots_count m (w ∷ ws) (Err refusal ∷ answers) before are = ap suc (slots_count m ws answers before are.1)
slots_count m _ _ before are = absurd are

pub slots_of_run : (run : RunJob) (m : Contents) (answers : List Answer) → AreAnswers m run.loads answers →
    AreSlotsOf run (windows_in run.loads answers) (slots_in 0 answers)
slots_of_run run m answers are = record {
  numbered = numbered_in 0 answers;
  windows_are = windows_count m run.loads answers 0 are;
  loads_are = slots_count m run.loads answers 0 are;
}
