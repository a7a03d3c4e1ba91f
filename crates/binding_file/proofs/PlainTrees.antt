-- The lines in front of the bindings of a text of the plain form, and what the whole text says.
use Rattle.std.proofs.Common.{◌≡◌, ℕ, ℤ, suc, ◌<◌, ◌≤◌, ◌==◌, Bool, true, false, if◌then◌else◌, Ordering, Less, Equal, Greater, nat_cmp, List, [], ◌∷◌, length, drop, codes, Option, Some, None, Ok, IsUtf8, refl, sym, ap, subst, ◌∙◌, arith}
use Rattle.std.specs.Cmp.Lexicographic.{slice_cmp}
use Rattle.std.specs.Ordering.{match_ordering}
use Rattle.std.proofs.lemmas.Bool.Decides.{nat_tests}
use Rattle.binding_rules.specs.Tables.{BindingTable, binding_table}
use Rattle.binding_rules.specs.declared.binding.Binding.{Binding}
use Rattle.binding_rules.specs.declared.settings.Edition.{Edition}
use Rattle.binding_rules.specs.declared.settings.Softwire.{Softwire}
use Rattle.toml_parser.specs.Lexical.{skip_blank}
use Rattle.toml.specs.Data.{Data, Items, Members, no_members, member, get_member, as_integer}
use Rattle.toml.specs.Parse.{line, lines, skip_bom, parse_document}
use Rattle.toml.specs.Tables.{Node, Nodes, no_nodes, node, value, key_value, std_table, define, along_header, along_dots, at_key, get_node, insert, close, close_node}
use Rattle.toml.proofs.Turns.{document_some}
use Rattle.binding_file.specs.Files.{edition_from, top_edition, top_names, IsSoftwire, AreBindings, AreElements, are_tables, IsTree, Says}
use Rattle.table_costs.specs.FirstLines.{begins_toml}
use Rattle.table_costs.proofs.FirstLineLemmas.{no_tree}
use Rattle.binding_file.specs.Keys.{has_other, Then}
use Rattle.binding_file.specs.Names.{key_of}
use Rattle.binding_file.specs.Parts.{with_member}
use Rattle.binding_file.specs.Plain.{numbered, settings, head_of, Goes}
use Rattle.binding_file.specs.PlainBlocks.{AreBindingBlocks}
use Rattle.binding_file.specs.PlainHeads.{IsEditionLine, AreMembers, AreSettings, IsPlainTree, below_softwire}
use Rattle.binding_file.specs.declared.names.Name.{Name}
use Rattle.binding_file.proofs.PlainSteps.{goes_here, goes_on, goes_line, no_node, setting}
use Rattle.binding_file.proofs.Trees.{then_ok}

version_line : (d : Data) → define (no_nodes, []) (([], codes "version"), key_value d) ≡ Some (numbered d, [])
unfolding define along_header along_dots at_key
version_line d = refl

settings_line : (v : Data) → define (numbered v, []) (([], codes "softwire"), std_table) ≡ Some (settings v no_nodes, below_softwire)
unfolding define along_header along_dots at_key
settings_line v = refl

pub edition_line : (text start after key : List ℕ) (d : Data) (z : ℤ) (e : Edition) → start ≡ skip_blank text → length start ≤ length text → (length start == 0) ≡ false →
    line start ≡ Some ((([], key), key_value d), after) → length after < length start → key ≡ codes "version" → as_integer d ≡ Some z → edition_from z ≡ Ok e → IsEditionLine text e after
edition_line text start after key d z e is within some read less named integer edition = record {
  v = d;
  z = z;
  integer = integer;
  edition = edition;
  goes = goes_line (no_nodes, []) (numbered d, []) text after (([], codes "version"), key_value d) (rw (← is) some) (rw (← is, ← named) read) (omega (arith, less, within)) (version_line d);
}

close_by : (o : Ordering) (a b c : Nodes) → close (match_ordering o a b c) ≡ match_ordering o (close a) (close b) (close c)
close_by Less a b c = refl
close_by Equal a b c = refl
close_by Greater a b c = refl

close_insert : (k : List ℕ) (d : Data) (ns : Nodes) → close (insert k (value d) ns) ≡ with_member k d (close ns)
close_insert k d no_nodes = refl
close_insert k d (node l x ns) =
    close_by (slice_cmp nat_cmp k l) (node k (value d) (node l x ns)) (node l (value d) ns) (node l x (insert k (value d) ns))
    ∙ ap (λ (ms : Members). match_ordering (slice_cmp nat_cmp k l) (member k d (member l (close_node x) (close ns))) (member l d (close ns)) (member l (close_node x) ms)) (close_insert k d ns)

pub members_here : (text : List ℕ) (ms : Members) → ms ≡ no_members → AreMembers text ms text
members_here text ms none = record { s = no_nodes; are = sym none; goes = λ v. goes_here (settings v no_nodes, below_softwire) text }

pub members_more : (text : List ℕ) (was now : Members) (rest start after key : List ℕ) (n : Name) (d : Data) → AreMembers text was rest → start ≡ skip_blank rest → (length start == 0) ≡ false →
    line start ≡ Some ((([], key), key_value d), after) → length after < length rest → key_of n ≡ key → get_member (key_of n) was ≡ None → now ≡ with_member (key_of n) d was → AreMembers text now after
members_more text was now rest start after key n d are is some read shorter named fresh put =
    let none = no_node (key_of n) are.s (ap (get_member (key_of n)) are.are ∙ fresh) in
    record {
      s = insert (key_of n) (value d) are.s;
      are = close_insert (key_of n) d are.s ∙ (ap (with_member (key_of n) d) are.are ∙ sym put);
      goes = λ v. goes_on (settings v no_nodes, below_softwire) (settings v are.s, below_softwire) (settings v (insert (key_of n) (value d) are.s), below_softwire) text rest after (are.goes v)
          (goes_line (settings v are.s, below_softwire) (settings v (insert (key_of n) (value d) are.s), below_softwire) rest after (([], key_of n), key_value d) (rw (← is) some) (rw (← is, named) read) shorter (setting v d are.s (key_of n) none));
    }

pub settings_from : (text rest : List ℕ) (ms : Members) (s : Softwire) → AreMembers text ms rest → IsSoftwire ms (Ok s) → AreSettings text s rest
settings_from text rest ms s are says = record { s = are.s; are = subst (λ (m : Members). IsSoftwire m (Ok s)) (sym are.are) says; goes = are.goes }

top_is : (v : Data) (s : Members) (ds : Items) (z : ℤ) (e : Edition) → as_integer v ≡ Some z → edition_from z ≡ Ok e → top_edition (head_of v s ds) ≡ Ok e
unfolding has_other
top_is v s ds z e integer edition = rw (integer, edition) refl

bindings_are : (v : Data) (s : Members) (ds : Items) (bs : List Binding) → are_tables ds ≡ true → AreElements 0 ds (Ok bs) → AreBindings (head_of v s ds) (Ok bs)
bindings_are v s ds bs tables are = rw tables are

tree_is : (v : Data) (z : ℤ) (s : Members) (ds : Items) (e : Edition) (softwire : Softwire) (bs : List Binding) → as_integer v ≡ Some z → edition_from z ≡ Ok e → IsSoftwire s (Ok softwire) →
    are_tables ds ≡ true → AreElements 0 ds (Ok bs) → IsTree (head_of v s ds) (Ok (binding_table e softwire bs))
tree_is v z s ds e softwire bs integer edition says tables are =
    then_ok (top_edition (head_of v s ds)) e _ _ (top_is v s ds z e integer edition)
    (record { gives = Ok softwire; given = says; rest = record { gives = Ok bs; given = bindings_are v s ds bs tables are; rest = refl } })

pub plain_is : (text front rest start body after : List ℕ) (e : Edition) (softwire : Softwire) (bs : List Binding) → front ≡ skip_bom text → length front ≤ length text → IsEditionLine front e rest →
    start ≡ skip_blank rest → length start ≤ length rest → (line start ≡ Some ((([], codes "softwire"), std_table), body)) × (length body < length start) → AreSettings body softwire after → AreBindingBlocks after bs →
    IsPlainTree text (binding_table e softwire bs)
plain_is text front rest start body after e softwire bs is short edition at within header says blocks =
    let v = edition.v in
    let some : (length start == 0) ≡ false = longer start (omega (arith, header.1)) in
    let down = goes_line (numbered v, []) (settings v no_nodes, below_softwire) rest body (([], codes "softwire"), std_table) (rw (← at) some) (rw (← at) header.0) (omega (arith, header.1, within)) (settings_line v) in
    let whole = goes_on (no_nodes, []) (numbered v, []) (settings v says.s, below_softwire) front rest after edition.goes
    (goes_on (numbered v, []) (settings v no_nodes, below_softwire) (settings v says.s, below_softwire) rest body after down (says.goes v)) in
    let (m, room, come) = whole (suc (length text)) (omega (arith, short)) in
    let (doc, ended, closed) = blocks.ends v says.s below_softwire m room in
    record {
      ms = head_of v (close says.s) blocks.ds;
      document = document_some text doc (rw (← is) (come ∙ ended)) ∙ ap Some closed;
      tree = tree_is v edition.z (close says.s) blocks.ds e softwire bs edition.integer edition.edition says.are blocks.tables blocks.elements;
    }
  where
    longer : (s : List ℕ) → 0 < length s → (length s == 0) ≡ false
    longer s less = grind (arith, nat_tests)

shorter_by : (b : Bool) (text : List ℕ) → length (if b then drop 3 text else text) ≤ length text
shorter_by true [] = omega arith
shorter_by true (a ∷ []) = omega arith
shorter_by true (a ∷ b ∷ []) = omega arith
shorter_by true (a ∷ b ∷ c ∷ text) = omega arith
shorter_by false text = omega arith

pub mark_short : (text : List ℕ) → length (skip_bom text) ≤ length text
unfolding skip_bom
mark_short text = shorter_by _ text

pub says_plain : (text : List ℕ) (t : BindingTable) → IsUtf8 text → IsPlainTree text t → Says text (Ok t)
says_plain text t utf8 plain = record { gives = Ok plain.ms; given = (utf8, plain.document); rest = plain.tree }
