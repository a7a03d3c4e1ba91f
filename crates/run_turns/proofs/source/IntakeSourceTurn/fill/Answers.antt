use Rattle.std.proofs.Common.{rules, ◌≡◌, [], arith, inl, inr, refl, sym, ◌∙◌, ap}
use Rattle.std.specs.Prelude.{IsOk}
use Rattle.run_turns.proofs.Filling.{cut_undrawn, cut_unread, draws_by, ended_by, few_drawn, fetched_with, filled_short, filled_whole, free_nothing, is_there, number_behind, number_of, some_drawn, tells_by}
use Rattle.run_turns.specs.Setups.{setup_of}
use Rattle.run_turns.proofs.JudgedTurns.{when_ok}
use Rattle.run_turns.proofs.source.IntakeSourceTurn.fill.Goals as goal

pub returns-then-self-clause-fills : goal.returns-then-self-clause-fills
returns-then-self-clause-fills g c = (
  filled_short refl (record { share = refl; reads = refl; seat_share = refl; seat_reads = refl })
      (cut_unread c.if-self.true refl (record { held = refl; lost = refl; last = refl }) refl),
  (refl, (refl, refl)),
)

pub returns-in_default-clause-fills : goal.returns-in_default-clause-fills
returns-in_default-clause-fills g c =
    let unread = c.in_default.ensures.refused in (
      filled_short refl (record { share = refl; reads = refl; seat_share = refl; seat_reads = refl }) (cut_unread refl refl unread.0 unread.1),
      (c.next_records.ensures.task, c.next_records.ensures.same),
    )

pub returns-then-is_empty-clause-fills : goal.returns-then-is_empty-clause-fills
returns-then-is_empty-clause-fills g c =
    let done = c.in-Ok.ensures in
    let none : c.in-Ok.records ≡ [] = search rules in (
      filled_whole refl c.if-self.false refl (record { share = refl; reads = refl; seat_share = refl; seat_reads = refl })
          (inl (ended_by none c.put_records.ensures.records done.fetched done.none refl refl refl refl
          (free_nothing g.N.Naming.areas c.args.turn.now.seat c.requires.empty))),
      (done.task, done.same),
    )

pub returns-in_default-take_seat-clause-fills : goal.returns-in_default-take_seat-clause-fills
returns-in_default-take_seat-clause-fills g c =
    let done = c.in-Ok.ensures in
    let none = c.in_default-take_seat.ensures.none in (
      filled_short c.take_seat.ensures.rest.1 (record { share = search rules; reads = search rules; seat_share = refl; seat_reads = refl })
          (cut_undrawn refl refl c.if-self.false done.fetched),
      (done.task, done.same),
    )

pub returns-then-is_err-clause-fills : goal.returns-then-is_err-clause-fills
returns-then-is_err-clause-fills g c =
    let done = c.in-Ok.ensures in
    let took = c.in-Some.ensures in
    let dealt = c.deal_numbers-held.ensures.dealt in (
      record {
        share = omega (arith, took.share, dealt.held_share);
        reads = omega (arith, took.reads, dealt.held_reads);
        seat_share = dealt.share;
        seat_reads = dealt.reads;
        whole = λ sound. absurd (cc (sound, c.take_seat.ensures.rest.1));
        cut = λ refused. record {
          refused = refl;
          ends = refl;
          same_areas = dealt.same_areas;
          drawn = _;
          draws = dealt.draws;
          points = dealt.points;
          taken = inr (
            c.if-self.false,
            (
              c.in-Ok.records,
              (
                fetched_with done.fetched c.stage_batch.new.ahead,
                few_drawn c.args.self.now.number c.deal_numbers-held.result.count c.deal_numbers-held.result.held.version
                    (omega (arith, dealt.below_end, c.len.ensures, done.most)),
              ),
            ),
          );
        };
      },
      (done.task, done.same),
    )

pub returns-in_default-new_lines-clause-fills : goal.returns-in_default-new_lines-clause-fills
returns-in_default-new_lines-clause-fills g c =
    let done = c.in-Ok.ensures in
    let took = c.in-Some.ensures in
    let dealt = c.deal_numbers-held.ensures.dealt in (
      record {
        share = omega (arith, took.share, dealt.held_share);
        reads = omega (arith, took.reads, dealt.held_reads);
        seat_share = dealt.share;
        seat_reads = dealt.reads;
        whole = λ sound. absurd (cc (sound, c.take_seat.ensures.rest.1));
        cut = λ refused. record {
          refused = refl;
          ends = refl;
          same_areas = dealt.same_areas;
          drawn = _;
          draws = dealt.draws;
          points = dealt.points;
          taken = inr (
            c.if-self.false,
            (
              c.in-Ok.records,
              (
                fetched_with done.fetched c.stage_batch.new.ahead,
                few_drawn c.args.self.now.number c.deal_numbers-held.result.count c.deal_numbers-held.result.held.version
                    (omega (arith, dealt.below_end, c.len.ensures, done.most)),
              ),
            ),
          );
        };
      },
      (done.task, done.same),
    )

pub returns-clause-fills : goal.returns-clause-fills
returns-clause-fills g c =
    let done = c.in-Ok.ensures in
    let took = c.in-Some.ensures in
    let dealt = c.deal_numbers-held.ensures.dealt in
    let batch = c.stage_batch in
    let is : IsOk batch.result = search rules in
    let split = when_ok batch.result is batch.ensures.split in
    let many = when_ok batch.result is batch.ensures.count in (
      record {
        share = omega (arith, took.share, dealt.held_share);
        reads = omega (arith, took.reads, dealt.held_reads);
        seat_share = dealt.share;
        seat_reads = dealt.reads;
        whole = λ sound. (
          c.if-self.false,
          (
            refl,
            inr (record {
              records = c.in-Ok.records;
              fetched = fetched_with done.fetched batch.new.ahead;
              split = split;
              some = some_drawn batch.new.round.records many dealt.some_one;
              start = refl;
              number = number_of c.args.self.now.number batch.new.round.records many;
              staged = when_ok batch.result is batch.ensures.staged;
              held = c.deal_numbers-held.result.held;
              seat = refl;
              its_areas = dealt.its_areas ∙ (took.its_areas ∙ sym c.requires.ready.its_areas);
              same_areas = dealt.same_areas;
              draws = draws_by c.args.self.now.number c.deal_numbers-held.result.held.version batch.new.round.records _ _ many dealt.draws;
              version = dealt.version;
              there = is_there dealt.same_areas dealt.version dealt.there;
              most = omega (arith, number_behind c.args.self.now.number batch.new.round.records batch.new.ahead many split, done.most);
              news = dealt.points.news;
              new_lines = record { points_are = dealt.points.points; tells = tells_by (ap setup_of done.task) c.points.ensures.points c.in-Ok-new_lines.ensures };
              ends = λ over. c.is_last.ensures (search rules);
            }),
          ),
        );
        cut = λ refused. absurd (cc refused);
      },
      (done.task, done.same),
    )
