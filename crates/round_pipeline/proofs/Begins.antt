-- A run of which nothing was made yet.
use Rattle.std.proofs.Common.{All, Bool, List, arith, ap, append-nil, false, length, map, refl, subst, sym, true, ℕ, [], ◌++◌, ◌<◌, ◌∙◌, ◌≡◌}
use Rattle.std.proofs.lemmas.List.{get_or-map, length-map}
use Rattle.std.specs.Prelude.{None, Option, slice_index_or}
use Rattle.rtrb.specs.Ring.{known_items, received, sent}
use Rattle.round_pipeline.specs.declared.capture.Capture.{Capture}
use Rattle.round_pipeline.specs.declared.capture.ReadEnd.{ReadEnd}
use Rattle.round_pipeline.specs.declared.finished.Finished.{Finished}
use Rattle.round_pipeline.specs.declared.finished.Seat.{Seat}
use Rattle.round_pipeline.specs.declared.writer.WriteEnd.{WriteEnd}
use Rattle.round_pipeline.specs.Ends.{HaveMet}
use Rattle.round_pipeline.specs.Pipelines.{IsFresh, IsRunning}
use Rattle.round_pipeline.specs.Threads.{IsDesk, IsWriting}
use Rattle.round_pipeline.proofs.Turns.{same_self}

-- each judge of a list
pub all_judges : {T J : Type 0} (P : J → Type 0) (seats : List (Seat T J)) → All P (map (λ s. s.judge) seats) → (i : ℕ) (d : Seat T J) → i < length seats →
    P (slice_index_or seats i d).judge
all_judges {T} {J} P seats all i d fits =
    subst P (get_or-map (λ (s : Seat T J). s.judge) seats i d d.judge fits) (all i d.judge (omega (arith, fits, length-map seats (λ (s : Seat T J). s.judge))))

pub desk_begins : {S T : Type 0} (ready : S → Type 0) (fills : S → T → S → T → Bool → Type 0) (c : Capture T S) → ready c.source → c.more ≡ true → c.closed ≡ false →
    sent c.order.turns ≡ [] → ((i : ℕ) (d : ReadEnd T) → i < length c.lines.items → (sent (slice_index_or c.lines.items i d).work ≡ []) × (received (slice_index_or c.lines.items i d).back ≡ [])) →
    IsDesk ready fills c c
desk_begins ready fills c can more unclosed turns none = record {
  same = λ i d fits. same_self _;
  turns = ((refl, refl, refl, refl), refl);
  ready_now = can;
  turning = rw (more, unclosed) record {
    order = [];
    rooms = [];
    rounds = [];
    size = refl;
    below = tt;
    many = refl;
    many_rounds = refl;
    turns_are = turns;
    gave = λ i d fits. (none i d fits).0;
    took = λ i d fits. (none i d fits).1;
    filled = (refl, refl);
  };
}

pub writing_begins : {W T E : Type 0} (puts : W → T → W → T → Option E → Type 0) (n : ℕ) (sink : W) (lines : List (WriteEnd T)) (turns : List (Option ℕ)) → length lines ≡ n → turns ≡ [] →
    ((i : ℕ) (d : WriteEnd T) → i < n → received (slice_index_or lines i d).made ≡ []) → IsWriting puts n sink lines turns false sink None lines
writing_begins puts n sink lines turns size none taken = record {
  order = [];
  products = [];
  backs = [];
  size = size;
  many = refl;
  many_backs = refl;
  turns_are = none;
  took = λ i d fits. taken i d fits;
  gave = λ i d fits. sym (append-nil (sent (slice_index_or lines i d).back));
  put = (refl, refl);
}

module _ {S J W T E : Type 0} (fills : S → T → S → T → Bool → Type 0) (judges : J → T → J → T → Type 0) (puts : W → T → W → T → Option E → Type 0)
    (n : ℕ) (reads : List (ReadEnd T)) (seats : List (Seat T J)) (writes : List (WriteEnd T)) (f : Finished T S J W E) where
  pub running_begins : (r0 : ReadEnd T) (j0 : Seat T J) (w0 : WriteEnd T) → IsFresh reads seats writes → length reads ≡ n → f.more ≡ true → f.answer ≡ None →
      (length f.reads.items ≡ n) × (length f.seats.items ≡ n) × (length f.writes.items ≡ n) →
      ((i : ℕ) (r : ReadEnd T) (j : Seat T J) (w : WriteEnd T) → i < n →
      HaveMet (slice_index_or reads i r) (slice_index_or seats i j).line (slice_index_or writes i w) (slice_index_or f.reads.items i r) (slice_index_or f.writes.items i w)) →
      ((i : ℕ) (j : Seat T J) → i < n → (slice_index_or f.seats.items i j).judge ≡ (slice_index_or seats i j).judge) →
      IsRunning fills judges puts n f.source seats f.sink writes f
  running_begins r0 j0 w0 new many more none sizes met same =
      let line = λ (i : ℕ) (r : ReadEnd T) (w : WriteEnd T) (l : i < n). new.lines i r j0 w (omega (arith, l, many)) in
      record {
        order = [];
        rooms = [];
        rounds = [];
        products = [];
        backs = [];
        sizes = sizes;
        below = tt;
        many = (refl, refl);
        many_rooms = refl;
        many_backs = refl;
        filled = (refl, more);
        judged = λ i d l. same i d l;
        put = (refl, none);
        took = λ i d l. (met i d j0 w0 l).took ∙ (line i d w0 l).back_taken;
        gave = λ i d l. (met i r0 j0 d l).gave ∙ sym (append-nil (sent (slice_index_or writes i d).back));
        pairs = λ i r w l. (met i r j0 w l).pair;
        left = λ i r w l other.
            let m = met i r j0 w l in
            ap (λ (x : List _). x ++ known_items (slice_index_or f.reads.items i r).back) m.took ∙ m.left ∙ sym m.gave;
      }
