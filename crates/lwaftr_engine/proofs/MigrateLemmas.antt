-- What a migration leaves.
use Rattle.lwaftr_engine.proofs.Words.{◌≡◌, ℕ, List, [], ◌++◌, length, take, Option, Some, None, Ok, inr, refl, sym, ◌∙◌, ap, arith, append-nil, option_map}
use Rattle.lwaftr_engine.proofs.Words.{Contents, content, Moves, Told, Writes, migrated_text, TableOf, TextOf, BindingTable, Puts, HoldsText, IsMigratedLine}
use Rattle.lwaftr_engine.proofs.Words.{LeavesMigrated, in_edition_two, World, Status}
use Rattle.lwaftr_engine.specs.Questions.{TookFront}
use Rattle.lwaftr_engine.proofs.Moving.{moves_by, moves_join, told_by}
use Rattle.lwaftr_engine.specs.declared.status.Status.TheVariants as status

nothing_more : (line : List ℕ) (said : Option (List ℕ)) → said ≡ option_map (λ taken. taken ++ take 0 line) said
nothing_more line None = refl
nothing_more line (Some l) = ap (λ (k : List ℕ). Some k) (sym (append-nil l))

-- nothing is put of a line
pub no_line : (said : Option (List ℕ)) → TookFront IsMigratedLine said said
no_line said = (migrated_text 0, (0, refl), 0, omega arith, nothing_more (migrated_text 0) said)

leaves_by : (input output : List ℕ) (t : BindingTable) (inputs old new : Contents) (before after : World) → HoldsText input output t inputs old new → (s : Status) →
    Puts s (migrated_text (length t.bindings)) before.said after.said → LeavesMigrated input output s before after inputs old new
leaves_by input output t inputs old new before after holds status.Done put = record { table = t; holds = holds; took = put }
leaves_by input output t inputs old new before after holds status.WriteFault put = inr (record { table = t; holds = holds; count = put.0; took = put.2 })
leaves_by input output t inputs old new before after holds status.OutOfMemory put = inr (record { table = t; holds = holds; count = put.0; took = put.2 })
leaves_by input output t inputs old new before after holds _ put = absurd put

-- a file is made, and then it holds these bytes
pub written_anew : (output bytes : List ℕ) (h0 h1 h2 : Option Contents) → Moves h0 h1 (λ m n. Writes m n output []) →
    Moves h1 h2 (λ m n. Writes m n output (content m output ++ bytes)) → Moves h0 h2 (λ m n. Writes m n output bytes)
written_anew output bytes h0 h1 h2 made appended =
    moves_join h0 h1 h2 _ _ _
    (λ m n o u v.
    record { here = v.here ∙ ap (λ (l : List ℕ). l ++ bytes) u.here; others = λ other e. v.others other e ∙ u.others other e })
    made appended

-- the text is written whole
pub migrated : (input output : List ℕ) (t : BindingTable) (text : List ℕ) (s : Status) (before after : World) → TextOf text (Ok (in_edition_two t)) →
    Puts s (migrated_text (length t.bindings)) before.said after.said → Told before.reading.held (λ i. TableOf (content i input) (Ok t)) →
    Moves before.writing.held after.writing.held (λ m n. Writes m n output text) →
    Told before.reading.held (λ i. Moves before.writing.held after.writing.held (LeavesMigrated input output s before after i))
migrated input output t text s before after spelled put table writes =
    told_by before.reading.held _ _
    (λ i is. moves_by before.writing.held after.writing.held _ _
    (λ m n whole.
    let holds : HoldsText input output t i m n = record { text = text; is_new = record { table = is; spelled = spelled }; writes = whole } in
    leaves_by input output t i m n before after holds s put)
    writes)
    table
