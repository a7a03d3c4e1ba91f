-- What was read stands behind the bytes.
use Rattle.std.proofs.Common.{◌≡◌, ◌+◌, ◌==◌, ℕ, List, true, false, take, subst, arith}
use Rattle.std.proofs.lemmas.Bool.Decides.{nat_tests}
use Rattle.capture_io.specs.Windows.{Ahead, IsMore}
use Rattle.capture_io.proofs.FetchLemmas.{more_by}
use Rattle.capture_io.proofs.window.Window.read_more.Goals as goal

pub returns-clause-told : goal.returns-clause-told
returns-clause-told g c =
    let held = (g.I.Reading.readable c.args.files.now).held in
    let name = c.args.name.now in
    let filled = c.self.inside.filled in
    let count = c.in_ok-count.count in
    let grown = c.grow.new.buffer.items in
    let now = c.read_behind.new.buffer.items in
    let more : Ahead = record { bytes = take (filled + count) now; last = (count == 0) } in
    let zero : (count == 0) ≡ true → count ≡ 0 = λ h. grind (arith, nat_tests) in
    let read : IsMore held name c.args.at (record { bytes = take filled grown; last = false }) more =
    more_by held name c.args.at grown now filled count c.in_ok-grow.ensures.size (omega (arith, c.in_ok-count.ensures.within, c.in_ok-count.ensures.size)) c.in_ok-count.ensures.front
    c.in_ok-count.ensures.behind c.in_ok-count.ensures.nothing (count == 0) zero in
    let From : List ℕ → Type 0 = λ l. IsMore held name c.args.at (record { bytes = l; last = c.self.inside.last }) more in
    subst (λ (a : Ahead). IsMore held name c.args.at a more) c.self.view_is (subst From c.in_ok-grow.ensures.front read)
