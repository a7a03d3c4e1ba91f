-- A capture that is opened, by the names and values that the calls had.
use Rattle.lwaftr_engine.proofs.Words.{ℕ, List, Option, Ok, refl, Contents, content, Told, IsAtFirst, Spot, spot, IsFresh, OpensEither, form_either}
use Rattle.lwaftr_engine.proofs.Words.{left_either, place_either, stands_either, written_as, Reader}
use Rattle.lwaftr_engine.proofs.Moving.{told_by}
use Rattle.lwaftr_engine.proofs.JobLemmas.{blocks_first, classic_first}
use Rattle.pcapng_io.specs.Captures as blocks
use Rattle.pcapng_io.specs.declared.either.Reader.TheVariants as reader

abbrev spot_of : Reader → Spot
spot_of r = spot (stands_either r) (left_either r) (place_either r)

opened_by : (r : Reader) (bytes : List ℕ) → IsFresh r → OpensEither (Ok r) bytes → IsAtFirst (spot_of r) (form_either r) (written_as r) bytes
opened_by (reader.Classic r) bytes fresh opened = classic_first r r.form bytes opened.0 refl fresh.0 opened.1
opened_by (reader.Blocks s) bytes fresh opened = blocks_first s (blocks.form_of s.seen.known) bytes opened.0 refl opened.1

pub opened_first : (r : Reader) (name : List ℕ) (h : Option Contents) → IsFresh r → Told h (λ m. OpensEither (Ok r) (content m name))
    → Told h (λ m. IsAtFirst (spot_of r) (form_either r) (written_as r) (content m name))
opened_first r name h fresh opened = told_by h _ _ (λ m it. opened_by r (content m name) fresh it) opened
