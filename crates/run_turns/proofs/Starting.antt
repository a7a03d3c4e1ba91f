-- What is known before the first record.
use Rattle.run_turns.proofs.Words.{◌≡◌, ℕ, ◌+◌, List, [], ◌∷◌, ◌++◌, length, Option, None, false, inl, refl, sym, ap, arith, subst, append-nil, ◌∙◌}
use Rattle.run_turns.proofs.Words.{AreasValue, AreWritten, Contents, Err, Leaves, HasTaken, IsFirst, IsInRange, OthersKept, Putting, Readable, RoundLaws}
use Rattle.run_turns.proofs.Words.{Setup, Spot, State, Taking, WrittenFiles, content, no_totals}
use Rattle.run_output.specs.Versions.{NoneIsDue}
use Rattle.reload_plan.specs.declared.loads.Slot.{Slot}
use Rattle.reload_plan.specs.declared.loads.Slot.TheVariants as slot
use Rattle.run_output.specs.Counting.{IsWithin}
use Rattle.run_turns.specs.Runs.{AreFresh}
use Rattle.run_turns.proofs.EndLemmas.{SomeLeft}
use Rattle.run_turns.proofs.Keeping.{Keeps}
use Rattle.run_turns.proofs.Moving.{moves_none, told_all}
use Rattle.run_turns.proofs.Rounding.{progress_of, state_of}
use Rattle.run_turns.proofs.Stepping.{cut_more, cut_of_all}
use Rattle.aftr_io.specs.declared.outside.Fault.TheVariants as fault

none_due_yet : (slots : List Slot) → NoneIsDue [] slots
none_due_yet [] = tt
none_due_yet (slot.Version version ∷ rest) = refl
none_due_yet (slot.Refused cause ∷ rest) = none_due_yet rest

within_none : IsWithin no_totals 0
within_none = record { records = refl; held = omega arith; forwarded = omega arith; dropped = omega arith; packets = omega arith }

taken_none : (name : List ℕ) (first : Spot) (bytes : List ℕ) (n : ℕ) (last : Option (List ℕ × ℕ)) → n ≡ 0 → first.stood bytes →
    HasTaken name first first bytes [] n None last
taken_none name first bytes n last is stood = subst (λ (k : ℕ). HasTaken name first first bytes [] k None last) (sym is) (record {
  stands = stood;
  count = refl;
  follows = λ rest ended left. left;
  forward = omega arith;
  within = λ k d inside. absurd (omega (arith, inside));
  stopped = tt;
})

-- nothing is written yet
pub written_first : (x : Setup) (s : State) (m : Contents) → IsFirst x.form x.run.errors s.progress → s.points ≡ [] → AreWritten x m m s []
written_first x s m first none c suits = record {
  stands = first.stands;
  stage_form = first.stage_form;
  number = first.number;
  entries = refl;
  asked = first.asked x.form c;
  totals = λ limited. first.totals;
  files = λ later limited. rw first.printed (record {
    versions_is = sym (append-nil (content m x.run.versions));
    output = sym (append-nil (content m x.run.output));
    verdicts = sym (append-nil (content m x.run.verdicts));
    others = λ name a b d. refl;
  });
  told = [];
  since = [];
  points = none;
  none_due = rw first.printed (none_due_yet x.slots);
  spoken = λ number inside. absurd (omega (arith, inside));
  reads = omega arith;
}

module _ {C : Type 0} {x : Setup} {areas : AreasValue} {s : Taking C} {w : Putting} (fresh : AreFresh x areas s w) where
  range_first : IsInRange x (progress_of s w)
  range_first = record {
    number = omega (arith, fresh.first.number);
    staged = fresh.first.staged ∙ sym fresh.first.number;
    totals = rw (fresh.first.totals, fresh.first.number) within_none;
    rate = fresh.first.rate;
    printed = omega (arith, fresh.first.printed);
  }

  module _ (laws : RoundLaws) (place : C → Spot) (some : (r : C) → SomeLeft (place r).left) where
    -- what each turn keeps holds at first
    pub keeps_first : (reads : ℕ) →
        Keeps laws x areas place some (place s.at.reader) s.at.files w.files s.dealer.seat.known.share s.dealer.seat.known.reads s w reads None
    keeps_first reads = record {
      its_areas = fresh.its_areas;
      seat_share = refl;
      seat_reads = refl;
      reading = rw fresh.no_ending (record { held = refl; lost = refl; last = refl });
      in_records = rw fresh.no_ending tt;
      others = moves_none w.files.held w.files.held (OthersKept x.run) (λ m name a b d. refl) refl;
      rate = fresh.first.rate;
      holds = (
        fresh.going,
        (
          refl,
          (
            range_first,
            told_all s.at.files.held _ (λ i. moves_none w.files.held w.files.held _ (λ m stood. record {
              records = [];
              read = record {
                few = omega (arith, ap (λ (l : List (ℕ × ℕ)). length l) fresh.no_draws);
                sound = λ sound. taken stood;
                cut = λ refused. absurd (cc (refused, fresh.going));
              };
              written = written_first x (state_of areas s w reads) m fresh.first fresh.no_points;
            }) refl),
          ),
        ),
      );
    } where
      taken : {bytes : List ℕ} → (place s.at.reader).stood bytes →
          HasTaken x.run.input (place s.at.reader) (place s.at.reader) bytes ([] ++ s.at.ahead) (s.number + length s.at.ahead) s.at.ending s.at.files.last
      taken {bytes} stood = rw (fresh.no_ahead, fresh.no_ending) (taken_none x.run.input (place s.at.reader) bytes _ s.at.files.last (omega (arith, fresh.first.number)) stood)

-- Memory was refused before the first record: nothing is read or written.
pub leaves_none : {x : Setup} {s : State} (first : Spot) (a : Readable) (o : WrittenFiles) → SomeLeft first.left → IsFirst x.form x.run.errors s.progress →
    s.points ≡ [] → s.draws ≡ [] → Leaves x s first first a a o o (Err fault.OutOfMemory)
leaves_none {x} {s} first a o some is none undrawn = record {
  went = tt;
  broken = told_all a.held _ (λ i. moves_none o.held o.held _ (λ m stood.
      let left = some (content i x.run.input) 0 in
      record {
        records = left.0;
        taken = inl (refl, (left.1, left.2));
        drawn = omega (arith, ap (λ (l : List (ℕ × ℕ)). length l) undrawn);
        part = cut_more (cut_of_all (written_first x s m is none)) left.0;
      }) refl);
  read = (false, record { held = refl; lost = refl; last = refl });
  others = moves_none o.held o.held (OthersKept x.run) (λ m name a b d. refl) refl;
  spoiled = refl;
}
