use Rattle.std.proofs.Common.{◌≡◌, ◌+◌, drop, map}
use Rattle.std.specs.Prelude.{bytes_eq, count_by}
use Rattle.aftr_text.specs.Jobs.{names_of}
use Rattle.aftr_text.proofs.words.files_named.Given as goal

abbrev pub invariant-loads : goal.invariant-loads
invariant-loads l =
    l.count + count_by (λ other. bytes_eq other l.name) (map (λ load. load.name) (drop l.load-index l.loads))
    ≡ count_by (λ other. bytes_eq other l.name) (names_of l.run)
