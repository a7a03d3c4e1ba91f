-- What the outputs hold where a round could not be written to its end.
use Rattle.run_turns.proofs.Words.{outputs_of, Contents, Course, HasBegun, HasWritten, IsFrontOf, Rec, Setup, State, Wrote, [], ap, append-nil, append_assoc, drop, entries_of}
use Rattle.run_turns.proofs.Words.{did_none, flat_map-append, lines_from, lines_in, load_lines, loads_of, packets_from, packets_in, refl, slot_text}
use Rattle.run_turns.proofs.Words.{sym, take, take-append-drop, ◌++◌, ◌∙◌, ◌∷◌, ◌≡◌, List, NamedSlot, ℕ}
use Rattle.run_turns.proofs.Parts.{all_alone, front_at_end, front_in}
use Rattle.run_turns.proofs.Writing.{wrote}
use Rattle.run_turns.proofs.Going.{RoundUnder, every, every_entry, limited_before, lines_are, old_lines, old_packets, packets_are, points_are}
use Rattle.run_turns.proofs.Going.{spoken_more, versions_are, wrote_more, wrote_same}

pub lines_split : (points : List ℕ) (k : ℕ) (loads : List NamedSlot) →
    load_lines points (take k loads) ++ load_lines points (drop k loads) ≡ load_lines points loads
lines_split points k loads =
    sym (flat_map-append (λ (load : NamedSlot). slot_text points load.name load.slot) (take k loads) (drop k loads))
    ∙ ap (λ (l : List NamedSlot). load_lines points l) (take-append-drop k loads)

-- a front of the lines that are left, behind those of the first loads, is one of all
pub lines_in_front : (points : List ℕ) (k : ℕ) (loads : List NamedSlot) {part : List ℕ} → IsFrontOf (load_lines points (drop k loads)) part →
    IsFrontOf (load_lines points loads) (load_lines points (take k loads) ++ part)
lines_in_front points k loads {part} front =
    front_at_end (load_lines points loads) (load_lines points (take k loads)) (load_lines points (drop k loads)) part (lines_split points k loads) front

-- records that were taken and written, under a course
pub record TakenUnder : Type 0 where
  pub x : Setup
  pub c : Course
  pub opened : Contents
  pub before : Contents
  pub s : State
  pub taken : List Rec
  pub h : HasWritten x c opened before s taken

module _ (t : TakenUnder) (later : List ℕ) where
  abbrev taken_packets : List ℕ
  taken_packets = packets_from t.c t.x.written 0 t.taken (entries_of t.x.form t.taken)

  abbrev pub taken_lines : List ℕ
  taken_lines = lines_from t.c 0 (entries_of t.x.form t.taken)

  -- lines of tables are put behind those of what was taken, and lines behind its lines: both are fronts of what is due
  pub begun_by : {d : Contents} (due v l : List ℕ) →
      IsFrontOf (load_lines (t.s.points ++ later) (loads_of t.x)) (load_lines (t.s.points ++ later) (take t.s.progress.printed (loads_of t.x)) ++ v) →
      IsFrontOf due (taken_lines ++ l) → Wrote t.x.run v [] l t.before d → HasBegun t.x t.c (t.s.points ++ later) due t.opened d t.taken
  begun_by due v l tables lines wrote = record {
    printed = t.h.told;
    later = t.h.since ++ later;
    all = ap (λ (l : List ℕ). l ++ later) t.h.points ∙ append_assoc t.h.told t.h.since later;
    loads = t.s.progress.printed;
    none_due = t.h.none_due;
    spoken = t.h.spoken;
    wrote = λ limited. record {
      more = v;
      in_tables = tables;
      packets_part = taken_packets ++ [];
      in_packets = all_alone taken_packets;
      lines_part = taken_lines ++ l;
      in_lines = lines;
      wrote = wrote_more (t.h.files later limited) wrote;
    };
  }

  -- what is written whole is written to a front
  pub still_begun : HasBegun t.x t.c (t.s.points ++ later) taken_lines t.opened t.before t.taken
  still_begun =
      begun_by taken_lines [] [] (lines_in_front (t.s.points ++ later) t.s.progress.printed (loads_of t.x) (0, refl))
      (all_alone taken_lines) (wrote t.x.run [] [] [] t.before t.before (did_none (outputs_of t.x.run) t.before))

module _ (r : RoundUnder) (later : List ℕ) {d : Contents} where
  -- a front of the new lines of tables is put behind what was there
  pub begun_tables : (count : ℕ) → Wrote r.x.run (take count (r.versions)) [] [] r.before d →
      HasBegun r.x r.c (r.q.points ++ later) (old_lines r) r.opened d r.taken
  begun_tables count wrote =
      let loads = loads_of r.x in
      let points = r.p.points ++ (r.judged.news ++ later) in
      let first = load_lines points (take r.p.progress.printed loads) in
      let rest = load_lines points (drop r.q.progress.printed loads) in
      let news = r.versions in
      let both = ap (λ (l : List ℕ). load_lines l (take r.q.progress.printed loads)) (points_are r later) ∙ sym (versions_are r later) in
      let whole : load_lines (r.p.points ++ (r.judged.news ++ later)) (loads_of r.x) ≡ (first ++ r.versions) ++ rest =
      sym (lines_split points r.q.progress.printed loads) ∙ ap (λ (l : List ℕ). l ++ rest) both in
      let t : TakenUnder = record { x = r.x; c = r.c; opened = r.opened; before = r.before; s = r.p; taken = r.taken; h = r.h } in
      rw (← (points_are r later)) (begun_by t (r.judged.news ++ later) (old_lines r) (take count news) []
      (front_in (load_lines points loads) first news rest (take count news) whole (count, refl)) (all_alone (old_lines r)) wrote)

  -- all of them, and fronts of the packets and of the lines of records
  pub begun_more : (n k : ℕ) →
      Wrote r.x.run (r.versions) (take n (packets_in (r.part ∷ []))) (take k (lines_in (r.part ∷ []))) r.before d →
      HasBegun r.x r.c (r.q.points ++ later) (lines_from r.c 0 (every_entry r)) r.opened d (every r)
  begun_more n k wrote =
      let points = r.q.points ++ later in
      let packets = packets_in (r.part ∷ []) in
      let lines = lines_in (r.part ∷ []) in
      record {
        printed = r.q.points;
        later = later;
        all = refl;
        loads = r.q.progress.printed;
        none_due = r.judged.new_lines.tells.none_due;
        spoken = spoken_more r;
        wrote = λ limited. record {
          more = [];
          in_tables = lines_in_front points r.q.progress.printed (loads_of r.x) (0, refl);
          packets_part = old_packets r ++ take n packets;
          in_packets = front_at_end (packets_from r.c r.x.written 0 (every r) (every_entry r)) (old_packets r) packets (take n packets)
              (packets_are r limited) (n, refl);
          lines_part = old_lines r ++ take k lines;
          in_lines = front_at_end (lines_from r.c 0 (every_entry r)) (old_lines r) lines (take k lines) (lines_are r limited) (k, refl);
          wrote = wrote_same (versions_are r later ∙ sym (append-nil (load_lines points (take r.q.progress.printed (loads_of r.x)))), refl, refl)
              (wrote_more (r.h.files (r.judged.news ++ later) (limited_before r limited)) wrote);
        };
      }
