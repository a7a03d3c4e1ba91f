use Rattle.std.proofs.Common.{arith, ◌≡◌, ◌+◌, ◌%◌, ◌<◌, ◌≤◌, ◌∙◌, ℕ, List, [], get_or, length, ap, sym, subst}
use Rattle.swap_core.specs.Plans.{Tables, IsTableSize, stale, table, width}
use Rattle.swap_core.proofs.Laws.{table_fits}
use Rattle.area_swap.specs.Changes.{AreChanges}
use Rattle.area_swap.specs.Places.{row_place}
use Rattle.area_swap.specs.Values.{SeatValue, IsClear}
use Rattle.area_swap.specs.Views.{spare_of}
use Rattle.area_swap.proofs.Belonging.{knows_plan}
use Rattle.area_swap.proofs.Apart.{table_in_row}
use Rattle.area_swap.proofs.Deskwork.{next_in}
use Rattle.area_swap.proofs.areas.Areas.write.Goals as goal

pub blocks_of-blocks-requires : goal.blocks_of-blocks-requires
blocks_of-blocks-requires c =
    let clear : IsClear c.desk.inside.place.me.0 =
    let P : SeatValue → Type 0 = λ s. IsClear s.known in subst P (sym c.desk.view_is) c.requires.phase in
    let plans : c.desk.inside.place.me.0.plan ≡ c.self.inside.plan =
    knows_plan _ _ _ _ _ _ _ c.self.view_is c.desk.view_is c.requires.areas c.self.invariant.0 ∙ c.self.invariant.0 in
    let points : length c.desk.inside.points.items ≡ length c.desk.inside.place.me.0.points = ap (λ (l : List ℕ). length l) c.desk.invariant.2 in
    omega (arith, points, c.self.invariant.5.many, next_in c.desk.inside.place.me.0 c.self.inside.plan c.desk.invariant.0 clear plans)

pub write_words-requires-clause-written : goal.write_words-requires-clause-written
write_words-requires-clause-written c =
    let clear : IsClear c.desk.inside.place.me.0 =
    let P : SeatValue → Type 0 = λ s. IsClear s.known in subst P (sym c.desk.view_is) c.requires.phase in
    let key = knows_plan _ _ _ _ _ _ _ c.self.view_is c.desk.view_is c.requires.areas c.self.invariant.0 in
    let plans : c.desk.inside.place.me.0.plan ≡ c.self.inside.plan = key ∙ c.self.invariant.0 in
    let points : length c.desk.inside.points.items ≡ length c.desk.inside.place.me.0.points = ap (λ (l : List ℕ). length l) c.desk.invariant.2 in
    let count : c.len-version.result ≡ length c.desk.inside.place.me.0.points = omega (arith, points) in
    let in_two : (c.len-version.result + 1) % 2 < 2 = omega arith in
    let fits : length (table c.self.inside.plan (c.len-version.result + 1)) ≤ width c.self.inside.plan =
    table_fits c.self.inside.plan (c.len-version.result + 1) in
    let same : length c.words-words.result.now ≡ length (table c.self.inside.plan (c.len-version.result + 1)) =
    ap (λ (l : List ℕ). length l) c.words-words.ensures in
    let in_row : length c.words-words.result.now ≤ c.self.inside.long = omega (arith, c.self.invariant.1) in
    record {
      same_plan = key;
      has = c.desk.invariant.0.has;
      desk = clear;
      next =
          c.words-words.ensures ∙ ap (λ (n : ℕ). table c.self.inside.plan (n + 1)) count
          ∙ ap (λ (p : Tables). table p (length c.desk.inside.place.me.0.points + 1)) (sym plans);
      begins =
          c.row_at-row.ensures ∙ ap (λ (n : ℕ). row_place n ((c.len-version.result + 1) % 2)) c.self.invariant.1
          ∙ ap (λ (n : ℕ). row_place (width c.self.inside.plan) ((n + 1) % 2)) count
          ∙ ap (λ (p : Tables). row_place (width p) (spare_of c.desk.inside.place.me.0)) (sym plans);
      inside =
          omega (arith, table_in_row ((c.len-version.result + 1) % 2) c.self.inside.long (length c.words-words.result.now) in_two in_row, c.self.invariant.1, c.self.invariant.2, c.row_at-row.ensures);
      small =
          omega (arith, table_in_row ((c.len-version.result + 1) % 2) c.self.inside.long (length c.words-words.result.now) in_two in_row, c.self.invariant.1, c.self.invariant.3, c.row_at-row.ensures);
    }

pub write_words-requires-clause-blocks : goal.write_words-requires-clause-blocks
write_words-requires-clause-blocks c =
    let clear : IsClear c.desk.inside.place.me.0 =
    let P : SeatValue → Type 0 = λ s. IsClear s.known in subst P (sym c.desk.view_is) c.requires.phase in
    let plans : c.desk.inside.place.me.0.plan ≡ c.self.inside.plan =
    knows_plan _ _ _ _ _ _ _ c.self.view_is c.desk.view_is c.requires.areas c.self.invariant.0 ∙ c.self.invariant.0 in
    let points : length c.desk.inside.points.items ≡ length c.desk.inside.place.me.0.points = ap (λ (l : List ℕ). length l) c.desk.invariant.2 in
    let count : c.len-version.result ≡ length c.desk.inside.place.me.0.points = omega (arith, points) in
    let stands : stale c.self.inside.plan c.len-version.result ≡ stale c.desk.inside.place.me.0.plan (length c.desk.inside.place.me.0.points) =
    ap (λ (n : ℕ). stale c.self.inside.plan n) count ∙ ap (λ (p : Tables). stale p (length c.desk.inside.place.me.0.points)) (sym plans) in
    let P : List ℕ → List ℕ → Type 0 = λ standing next. AreChanges standing next 0 (length next) c.blocks_of-blocks.result.now in
    let B : List ℕ → Type 0 =
    λ blocks. AreChanges (stale c.self.inside.plan c.len-version.result) (table c.self.inside.plan (c.len-version.result + 1)) 0 (length (table c.self.inside.plan (c.len-version.result + 1))) blocks in
    let Q : List ℕ → Type 0 = λ standing. P standing c.words-words.result.now in
    let is_listed : c.len-version.result < length c.self.inside.changes.items =
    omega (arith, points, c.self.invariant.5.many, next_in c.desk.inside.place.me.0 c.self.inside.plan c.desk.invariant.0 clear plans) in
    let listed : B c.blocks_of-blocks.result.now =
    subst B (sym (c.blocks_of-blocks.ensures ∙ ap (λ (lists : List (List ℕ)). get_or lists c.len-version.result []) c.as_slice.ensures.value))
    (c.self.invariant.5.each c.len-version.result is_listed) in
    subst Q stands (subst (P (stale c.self.inside.plan c.len-version.result)) (sym c.words-words.ensures) listed)

pub returns-clause-rule : goal.returns-clause-rule
returns-clause-rule c =
    let clear : IsClear c.desk.inside.place.me.0 =
    let P : SeatValue → Type 0 = λ s. IsClear s.known in subst P (sym c.desk.view_is) c.requires.phase in
    let plans : c.desk.inside.place.me.0.plan ≡ c.self.inside.plan =
    knows_plan _ _ _ _ _ _ _ c.self.view_is c.desk.view_is c.requires.areas c.self.invariant.0 ∙ c.self.invariant.0 in
    let points : length c.desk.inside.points.items ≡ length c.desk.inside.place.me.0.points = ap (λ (l : List ℕ). length l) c.desk.invariant.2 in
    let in_plan : c.len-version.result + 1 < length c.self.inside.plan.tables =
    omega (arith, points, next_in c.desk.inside.place.me.0 c.self.inside.plan c.desk.invariant.0 clear plans) in
    let size : IsTableSize (table c.self.inside.plan (c.len-version.result + 1)) =
    c.self.invariant.4.sizes (c.len-version.result + 1) [] in_plan in
    let same : length c.words-words.result.now ≡ length (table c.self.inside.plan (c.len-version.result + 1)) =
    ap (λ (l : List ℕ). length l) c.words-words.ensures in
    c.write_words.ensures.rule (omega (arith, size.0))
