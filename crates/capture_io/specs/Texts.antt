-- The texts of refusals. A place counts the bytes before it.
use Rattle.std.specs.Prelude.{ℕ, List, ◌++◌, codes, decimal}
use Rattle.capture_io.specs.declared.forms.CaptureBad.{CaptureBad}
use Rattle.capture_io.specs.declared.forms.CaptureBad.TheVariants as bad
use Rattle.capture_io.specs.declared.ng_bad.NgBad.{NgBad}
use Rattle.capture_io.specs.declared.ng_bad.NgBad.TheVariants as ng

-- of a pcapng file: the word `ng`, what is wrong, and its numbers
abbrev pub ng_text : NgBad → List ℕ
ng_text (ng.Cut at) = codes "ng cut " ++ decimal at
ng_text (ng.Order at) = codes "ng order " ++ decimal at
ng_text (ng.Length at) = codes "ng length " ++ decimal at
ng_text (ng.Version at) = codes "ng version " ++ decimal at
ng_text (ng.Old at) = codes "ng old " ++ decimal at
ng_text (ng.Interfaces at) = codes "ng interfaces " ++ decimal at
ng_text (ng.Link at number) = codes "ng link " ++ decimal at ++ codes " " ++ decimal number
ng_text (ng.MixedLinks at) = codes "ng mixed-links " ++ decimal at
ng_text (ng.Options at) = codes "ng options " ++ decimal at
ng_text (ng.Resolution at) = codes "ng resolution " ++ decimal at
ng_text (ng.Interface at) = codes "ng interface " ++ decimal at
ng_text (ng.TooMany at) = codes "ng too-many " ++ decimal at
ng_text (ng.TooLong at) = codes "ng too-long " ++ decimal at
ng_text (ng.Captured at) = codes "ng captured " ++ decimal at
ng_text (ng.Time at) = codes "ng time " ++ decimal at
ng_text (ng.Far at) = codes "ng far " ++ decimal at

abbrev pub capture_text : CaptureBad → List ℕ
capture_text bad.Magic = codes "magic"
capture_text bad.Version = codes "version"
capture_text (bad.Link number) = codes "link " ++ decimal number
capture_text (bad.CutHeader at) = codes "cut header at " ++ decimal at
capture_text (bad.CutRecord at) = codes "cut record at " ++ decimal at
capture_text (bad.TooLong at) = codes "too long at " ++ decimal at
capture_text (bad.TooMany at) = codes "too many at " ++ decimal at
capture_text (bad.Ng refusal) = ng_text refusal
