-- The plan that is made of loads.
use Rattle.lwaftr_engine.proofs.Words.{◌≡◌, ℕ, zero, suc, ◌+◌, ◌<◌, List, [], ◌∷◌, length, All, Result, Ok, Err, refl, sym, ◌∙◌, ap, arith, slice_index_or}
use Rattle.lwaftr_engine.proofs.Words.{IfOk, OutOfMemory, AreRising, IsLoad, windows_of, LoadWords, AreFitFor, AreSound, slots_from, Load, Made, IsFitFor}
use Rattle.lwaftr_engine.proofs.Words.{always, length-map}
use Rattle.std.proofs.lemmas.List.{get_or-map}
use Rattle.std.proofs.lemmas.Slice.Zip.{AllZip-long}

fit_at : (ws : List LoadWords) (ls : List Load) → AreFitFor ws ls → (k : ℕ) (w : LoadWords) (l : Load) → k < length ls →
    IsFitFor (slice_index_or ws k w) (slice_index_or ls k l)
fit_at [] [] fit k w l inside = absurd (omega (arith, inside))
fit_at (w ∷ ws) (l ∷ ls) fit zero v d inside = fit.0
fit_at (w ∷ ws) (l ∷ ls) fit (suc k) v d inside = fit_at ws ls fit.1 k v d (omega (arith, inside))
fit_at _ _ fit k w l inside = absurd fit

-- words where there are none
abbrev no_words : LoadWords
no_words = record { window = always; name = [] }

window_at : (ws : List LoadWords) (ls : List Load) → AreFitFor ws ls → (k : ℕ) (d : Load) → k < length ls →
    (slice_index_or ls k d).window ≡ slice_index_or (windows_of ws) k always
window_at ws ls fit k d inside =
    (fit_at ws ls fit k no_words d inside).window
    ∙ sym (get_or-map (λ (w : LoadWords). w.window) ws k no_words always (omega (arith, inside, AllZip-long IsFitFor ws ls fit)))

pub are_sound : (ws : List LoadWords) (ls : List Load) → AreFitFor ws ls → All IsLoad ws → AreRising (windows_of ws) → AreSound ls
are_sound ws ls fit all rising = record {
  windows = λ k d inside. rw (fit_at ws ls fit k no_words d inside).window (all k no_words (omega (arith, inside, long))).0;
  words = λ k d inside. (fit_at ws ls fit k no_words d inside).sound;
  rising = λ k d inside.
      rw (window_at ws ls fit k d (omega (arith, inside)), window_at ws ls fit (k + 1) d inside)
      (rising k (omega (arith, inside, long, length-map ws (λ (w : LoadWords). w.window))));
} where
  long : length ls ≡ length ws
  long = AllZip-long IsFitFor ws ls fit

slots_length : (ls : List Load) (before : ℕ) → length (slots_from before ls) ≡ length ls
slots_length [] before = refl
slots_length (l ∷ ls) before = ap suc (slots_length ls _)

pub counted : (r : Result Made OutOfMemory) (ws : List LoadWords) (ls : List Load) → AreFitFor ws ls → IfOk r (λ made. made.slots ≡ slots_from 0 ls) →
    IfOk r (λ made. length made.slots ≡ length ws)
counted (Ok made) ws ls fit same = ap (λ l. length l) same ∙ (slots_length ls 0 ∙ AllZip-long IsFitFor ws ls fit)
counted (Err why) ws ls fit same = tt
