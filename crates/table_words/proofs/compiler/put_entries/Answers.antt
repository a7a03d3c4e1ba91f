use Rattle.std.proofs.Common.{ℕ, ◌/◌, ◌<◌, refl, inl, inr, arith}
use Rattle.std.proofs.lemmas.Bool.{cases_lt}
use Rattle.table_words.specs.Layout.{row_at}
use Rattle.table_words.proofs.Compiling.{mixed_if, put_more, not_eq_true, not_eq_false}
use Rattle.table_words.proofs.compiler.put_entries.Goals as goal

pub addresses-preserved : goal.addresses-preserved
addresses-preserved c =
    let inv = c.addresses.invariant in
    let to = c.end_of_address-to.result in
    let end = c.end_of_address-to.ensures in
    let start : (e : ℕ) → e < c.addresses.from → (row_at c.args.rows.now e).0 / 4294967296 < (row_at c.args.rows.now c.addresses.from).0 / 4294967296 =
    λ e l. inv.start e l c.addresses-test.true in
    record {
      within = end.within;
      start = λ e l m. elim (cases_lt e c.addresses.from) [
        | inl less ↦ (let s = start e less in let a = end.above to (omega arith) m in omega (arith, s, a))
        | inr more ↦ (let s = end.same e more l in let a = end.above to (omega arith) m in omega (arith, s, a))
      ];
      put = λ mixed tells.
          put_more c.args.rows.now c.requires.ascending mixed tells c.addresses.from to end start _ _ _ _ _
          (mixed_if c.args.rows.now c.requires.ascending mixed tells c.addresses.from to end start _ (not_eq_true _ _) (not_eq_false _ _))
          refl (inv.put mixed tells) c.in_ok-put_address.ensures;
    }
