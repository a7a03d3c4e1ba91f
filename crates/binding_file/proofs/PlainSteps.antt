-- One line more of a text of the plain form.
use Rattle.std.proofs.Common.{◌≡◌, ℕ, ◌+◌, ◌-◌, ◌<◌, ◌≤◌, ◌==◌, ◌||◌, ◌&&◌, not, Bool, true, false, if◌then◌else◌, Ordering, Less, Equal, Greater, is_eq, nat_cmp, bytes_eq, List, [], ◌∷◌, ◌++◌, length, codes, Option, Some, None, option_map, Result, Ok, Err, refl, sym, ap, subst, ◌∙◌, arith}
use Rattle.std.specs.Cmp.Lexicographic.{slice_cmp}
use Rattle.std.specs.Option.{option_or}
use Rattle.std.specs.Ordering.{match_ordering}
use Rattle.std.proofs.lemmas.Map.Text.{is_eq-slice_cmp}
use Rattle.std.proofs.lemmas.Slice.Eq.{bytes_eq-Decides}
use Rattle.std.proofs.lemmas.Bool.Decides.{nat_tests}
use Rattle.binding_rules.specs.declared.binding.Binding.{Binding}
use Rattle.toml_parser.specs.Lexical.{skip_blank}
use Rattle.toml.specs.Data.{Data, table, Items, no_items, item, push_item, Members, no_members, member, get_member, same_key}
use Rattle.toml.specs.Parse.{line, lines}
use Rattle.toml.specs.Tables.{Document, Expression, Node, Nodes, no_nodes, node, value, key_value, std_table, array_table, define, along_header, along_dots, at_key, get_node, insert, close, close_node}
use Rattle.toml.proofs.Turns.{lines_more, lines_end}
use Rattle.binding_file.specs.Files.{binding_names, IsElement, AreElements, are_tables}
use Rattle.binding_file.specs.Keys.{After, Then, has_other, is_one_of, keys_of}
use Rattle.binding_file.specs.Names.{key_of}
use Rattle.binding_file.specs.Parts.{at_name, data_of, AreFields, IsBindingFrom}
use Rattle.binding_file.specs.Plain.{root, settings, numbered, head_of, Goes}
use Rattle.binding_file.specs.PlainBlocks.{AreHeld, IsPut, ShowsHeld, IsBlock, IsBindingBlock, AreBlocks, AreBindingBlocks, below_binding, shown}
use Rattle.binding_file.specs.declared.element.Fields.{Fields}
use Rattle.binding_file.specs.declared.names.Name.{Name}
use Rattle.binding_file.specs.declared.names.Name.TheVariants as name
use Rattle.binding_file.specs.declared.plain_blocks.Held.{Held}
use Rattle.binding_file.specs.declared.refusals.FileRefused.{FileRefused}
use Rattle.binding_file.proofs.Walks.{element_is}

-- what the lines of the three kinds make of the document
pub setting : (v d : Data) (s : Nodes) (k : List ℕ) → get_node k s ≡ None →
    define (settings v s, codes "softwire" ∷ []) (([], k), key_value d) ≡ Some (settings v (insert k (value d) s), codes "softwire" ∷ [])
unfolding define along_header along_dots at_key
setting v d s k none = rw none refl

pub first_header : (v : Data) (s : Nodes) (at : List (List ℕ)) → define (settings v s, at) (([], codes "binding"), array_table) ≡ Some (root v s no_items no_nodes, codes "binding" ∷ [])
unfolding define along_header along_dots at_key
first_header v s at = refl

pub next_header : (v : Data) (s last : Nodes) (done : Items) (at : List (List ℕ)) →
    define (root v s done last, at) (([], codes "binding"), array_table) ≡ Some (root v s (push_item done (table (close last))) no_nodes, codes "binding" ∷ [])
unfolding define along_header along_dots at_key
next_header v s last done at = refl

pub key_more : (v d : Data) (s last : Nodes) (done : Items) (k : List ℕ) → get_node k last ≡ None →
    define (root v s done last, codes "binding" ∷ []) (([], k), key_value d) ≡ Some (root v s done (insert k (value d) last), codes "binding" ∷ [])
unfolding define along_header along_dots at_key
key_more v d s last done k none = rw none refl

-- reading on
pub goes_here : (doc : Document) (text : List ℕ) → Goes doc text doc text
goes_here doc text n room = (n, room, refl)

pub goes_on : (a b c : Document) (t u w : List ℕ) → Goes a t b u → Goes b u c w → Goes a t c w
goes_on a b c t u w one two n room =
    let (m, less, is) = one n room in
    let (k, fewer, so) = two m less in
    (k, fewer, is ∙ so)

pub goes_line : (doc next : Document) (text after : List ℕ) (e : Expression) → (length (skip_blank text) == 0) ≡ false → line (skip_blank text) ≡ Some (e, after) →
    length after < length text → define doc e ≡ Some next → Goes doc text next after
goes_line doc next text after e some read shorter defined n room =
    (n - 1, omega arith, lines_more n doc next text e after (omega arith) some read defined)

-- a key that is put into a table which has it not
got_by : (o : Ordering) (k l : List ℕ) (x : Node) (ns : Nodes) → o ≡ slice_cmp nat_cmp k l → get_member k (close ns) ≡ option_map close_node (get_node k ns) →
    match_ordering o (get_member k (close ns)) (Some (close_node x)) (get_member k (close ns)) ≡ option_map close_node (if is_eq o then Some x else get_node k ns)
got_by Less k l x ns is h = h
got_by Equal k l x ns is h = refl
got_by Greater k l x ns is h = h

pub got_closed : (k : List ℕ) (ns : Nodes) → get_member k (close ns) ≡ option_map close_node (get_node k ns)
got_closed k no_nodes = refl
got_closed k (node l x ns) = got_by (slice_cmp nat_cmp k l) k l x ns refl (got_closed k ns)

none_closed : (o : Option Node) → option_map close_node o ≡ None → o ≡ None
none_closed None is = refl
none_closed (Some x) is = absurd cc

pub no_node : (k : List ℕ) (ns : Nodes) → get_member k (close ns) ≡ None → get_node k ns ≡ None
no_node k ns is = none_closed (get_node k ns) (sym (got_closed k ns) ∙ is)

-- what stands at a key that is found by its bytes
abbrev at_bytes : List ℕ → List ℕ → Data → Option Data
at_bytes l k d = if bytes_eq l k then Some d else None

same_bytes : (l k : List ℕ) → bytes_eq l k ≡ true → l ≡ k
same_bytes l k is = (bytes_eq-Decides l k).0 is

swap : (b : Bool) (g : Option Data) (d : Data) → (b ≡ true → g ≡ None) → option_or (if b then Some d else None) g ≡ option_or g (if b then Some d else None)
swap true g d none = rw (none refl) refl
swap false None d none = refl
swap false (Some e) d none = refl

by_cases : (o : Ordering) (d : Data) (later : Option Data) → match_ordering o later (Some d) later ≡ option_or (if is_eq o then Some d else None) later
by_cases Less d later = refl
by_cases Equal d later = refl
by_cases Greater d later = refl

in_front : (l k : List ℕ) (d : Data) (ns : Nodes) → get_node k ns ≡ None → get_member l (member k d (close ns)) ≡ option_or (get_member l (close ns)) (at_bytes l k d)
in_front l k d ns none =
    by_cases (slice_cmp nat_cmp l k) d (get_member l (close ns))
    ∙ (ap (λ (t : Bool). option_or (if t then Some d else None) (get_member l (close ns))) (is_eq-slice_cmp l k)
    ∙ swap (bytes_eq l k) (get_member l (close ns)) d λ is. rw (same_bytes l k is) (got_closed k ns ∙ ap (option_map close_node) none))

over_first : (o : Ordering) (e : Data) (a b c : Option Data) → a ≡ option_or b c → match_ordering o a (Some e) a ≡ option_or (match_ordering o b (Some e) b) c
over_first Less e a b c is = is
over_first Equal e a b c is = refl
over_first Greater e a b c is = is

insert_by : (o : Ordering) (l k m : List ℕ) (d : Data) (y : Node) (ns : Nodes) → o ≡ slice_cmp nat_cmp k m → get_node k (node m y ns) ≡ None → (if is_eq o then Some y else get_node k ns) ≡ None →
    (get_node k ns ≡ None → get_member l (close (insert k (value d) ns)) ≡ option_or (get_member l (close ns)) (at_bytes l k d)) →
    get_member l (close (match_ordering o (node k (value d) (node m y ns)) (node m (value d) ns) (node m y (insert k (value d) ns)))) ≡ option_or (get_member l (close (node m y ns))) (at_bytes l k d)
insert_by Less l k m d y ns is none found h = in_front l k d (node m y ns) none
insert_by Equal l k m d y ns is none found h = absurd cc
insert_by Greater l k m d y ns is none found h = over_first (slice_cmp nat_cmp l m) (close_node y) _ _ _ (h found)

-- every key of a table to which a new one came
pub insert_got : (l k : List ℕ) (d : Data) (ns : Nodes) → get_node k ns ≡ None → get_member l (close (insert k (value d) ns)) ≡ option_or (get_member l (close ns)) (at_bytes l k d)
insert_got l k d no_nodes none = in_front l k d no_nodes none
insert_got l k d (node m y ns) none = insert_by (slice_cmp nat_cmp k m) l k m d y ns refl none none (insert_got l k d ns)

turn_or : (a b c : Bool) → (a || (b || c)) ≡ (b || (a || c))
turn_or true true c = refl
turn_or true false c = refl
turn_or false b c = refl

other_by : (names : List Name) (o : Ordering) (k m : List ℕ) (d : Data) (y : Node) (ns : Nodes) → (if is_eq o then Some y else get_node k ns) ≡ None →
    (get_node k ns ≡ None → has_other names (close (insert k (value d) ns)) ≡ (not (is_one_of names k) || has_other names (close ns))) →
    has_other names (close (match_ordering o (node k (value d) (node m y ns)) (node m (value d) ns) (node m y (insert k (value d) ns)))) ≡ (not (is_one_of names k) || has_other names (close (node m y ns)))
unfolding has_other
other_by names Less k m d y ns found h = refl
other_by names Equal k m d y ns found h = absurd cc
other_by names Greater k m d y ns found h =
    ap (λ (b : Bool). not (is_one_of names m) || b) (h found) ∙ turn_or (not (is_one_of names m)) (not (is_one_of names k)) (has_other names (close ns))

pub insert_other : (names : List Name) (k : List ℕ) (d : Data) (ns : Nodes) → get_node k ns ≡ None → has_other names (close (insert k (value d) ns)) ≡ (not (is_one_of names k) || has_other names (close ns))
unfolding has_other
insert_other names k d no_nodes none = refl
insert_other names k d (node m y ns) none = other_by names (slice_cmp nat_cmp k m) k m d y ns none (insert_other names k d ns)

one_key : (n m : Name) (now before : Option Data) (d : Data) (last : Nodes) → get_node (key_of n) last ≡ None → before ≡ get_member (key_of m) (close last) →
    now ≡ option_or before (at_name m (key_of n) d) → now ≡ get_member (key_of m) (close (insert (key_of n) (value d) last))
one_key n m now before d last none was is = is ∙ (ap (λ (o : Option Data). option_or o (at_name m (key_of n) d)) was ∙ sym (insert_got (key_of m) (key_of n) d last none))

no_other : (known other : Bool) → known ≡ true → other ≡ false → (not known || other) ≡ false
no_other true false is none = refl
no_other true true is none = absurd cc
no_other false other is none = absurd cc

pub put_fresh : (before after : Held) (n : Name) (d : Data) (last : Nodes) → IsPut before n d after → AreHeld before (close last) → get_node (key_of n) last ≡ None
put_fresh before after n d last put are = no_node (key_of n) last (put.fresh (close last) are)

pub put_held : (before after : Held) (n : Name) (d : Data) (last : Nodes) → IsPut before n d after → AreHeld before (close last) → AreHeld after (close (insert (key_of n) (value d) last))
put_held before after n d last put are =
    let none = put_fresh before after n d last put are in
    record {
      b4_is = one_key n name.B4 _ _ d last none are.b4_is put.b4_is;
      ipv4_is = one_key n name.Ipv4 _ _ d last none are.ipv4_is put.ipv4_is;
      offset_is = one_key n name.Offset _ _ d last none are.offset_is put.offset_is;
      length_is = one_key n name.Length _ _ d last none are.length_is put.length_is;
      psid_is = one_key n name.Psid _ _ d last none are.psid_is put.psid_is;
      other_is = insert_other binding_names (key_of n) d last none ∙ no_other (is_one_of binding_names (key_of n)) (has_other binding_names (close last)) put.known are.other_is;
    }

-- the keys of a block, one after the other
pub block_here : (text : List ℕ) (held : Held) → AreHeld held no_members → IsBlock text held text
block_here text held none = record { last = no_nodes; are = none; goes = λ v s done. goes_here (root v s done no_nodes, below_binding) text }

pub block_more : (text : List ℕ) (held more : Held) (rest start after key : List ℕ) (n : Name) (d : Data) → IsBlock text held rest → start ≡ skip_blank rest → (length start == 0) ≡ false →
    line start ≡ Some ((([], key), key_value d), after) → length after < length rest → key_of n ≡ key → IsPut held n d more → IsBlock text more after
block_more text held more rest start after key n d block is some read shorter named put =
    let none = put_fresh held more n d block.last put block.are in
    record {
      last = insert (key_of n) (value d) block.last;
      are = put_held held more n d block.last put block.are;
      goes = λ v s done. goes_on (root v s done no_nodes, below_binding) (root v s done block.last, below_binding) (root v s done (insert (key_of n) (value d) block.last), below_binding) text rest after (block.goes v s done)
          (goes_line (root v s done block.last, below_binding) (root v s done (insert (key_of n) (value d) block.last), below_binding) rest after (([], key_of n), key_value d) (rw (← is) some) (rw (← is, named) read) shorter (key_more v d s block.last done (key_of n) none));
    }

-- what the keys make is the binding
pub held_fields : (held : Held) (fields : Fields) (ms : Members) → AreHeld held ms → ShowsHeld held fields → AreFields fields ms
held_fields held fields ms are shows = record {
  b4_is = shows.b4_is ∙ are.b4_is;
  ipv4_is = shows.ipv4_is ∙ are.ipv4_is;
  offset_is = shows.offset_is ∙ are.offset_is;
  length_is = shows.length_is ∙ are.length_is;
  psid_is = shows.psid_is ∙ are.psid_is;
  other_is = shows.other_is ∙ sym are.other_is;
}

pub block_binding : (at : ℕ) (text start body rest : List ℕ) (held : Held) (fields : Fields) (b : Binding) → start ≡ skip_blank text → length start ≤ length text → line start ≡ Some ((([], codes "binding"), array_table), body) →
    length body < length start → IsBlock body held rest → length rest ≤ length body → ShowsHeld held fields → IsBindingFrom at fields (Ok b) → IsBindingBlock at text b rest
block_binding at text start body rest held fields b is within read shorter block less shows made =
    let some : (length start == 0) ≡ false = longer start (omega arith) in
    record {
      last = block.last;
      element = element_is at (table (close block.last)) (close block.last) fields (Ok b) refl (held_fields held fields (close block.last) block.are shows) made;
      shorter = omega arith;
      as_first = λ v s section. goes_on (settings v s, section) (root v s no_items no_nodes, below_binding) (root v s no_items block.last, below_binding) text body rest
          (goes_line (settings v s, section) (root v s no_items no_nodes, below_binding) text body (([], codes "binding"), array_table) (rw (← is) some) (rw (← is) read) (omega arith) (first_header v s section)) (block.goes v s no_items);
      as_next = λ v s before done section. goes_on (root v s done before, section) (root v s (push_item done (table (close before))) no_nodes, below_binding) (root v s (push_item done (table (close before))) block.last, below_binding) text body rest
          (goes_line (root v s done before, section) (root v s (push_item done (table (close before))) no_nodes, below_binding) text body (([], codes "binding"), array_table) (rw (← is) some) (rw (← is) read) (omega arith) (next_header v s before done section)) (block.goes v s (push_item done (table (close before))));
    }
  where
    longer : (s : List ℕ) → 0 < length s → (length s == 0) ≡ false
    longer s less = grind (arith, nat_tests)

-- one element more at the end
abbrev ok : {A : Type 0} → A → Result A FileRefused
ok a = Ok a

split_elements : (at : ℕ) (e : Data) (ds : Items) (bs : List Binding) → AreElements at (item e ds) (Ok bs) →
    (a : Binding) × (others : List Binding) × (bs ≡ a ∷ others) × IsElement at e (Ok a) × AreElements (at + 1) ds (Ok others)
split_elements at e ds bs are = by are.gives are.given are.rest
  where
    by_others : (a : Binding) → IsElement at e (Ok a) → (g : Result (List Binding) FileRefused) → AreElements (at + 1) ds g → Then g (λ more. ok bs ≡ Ok (a ∷ more)) (ok bs) →
        (b : Binding) × (others : List Binding) × (bs ≡ b ∷ others) × IsElement at e (Ok b) × AreElements (at + 1) ds (Ok others)
    by_others a first (Err f) given is = absurd cc
    by_others a first (Ok more) given is = (a, more, cc, first, given)

    by : (g : Result Binding FileRefused) → IsElement at e g → Then g (λ a. After (AreElements (at + 1) ds) (λ more. ok bs ≡ Ok (a ∷ more)) (ok bs)) (ok bs) →
        (b : Binding) × (others : List Binding) × (bs ≡ b ∷ others) × IsElement at e (Ok b) × AreElements (at + 1) ds (Ok others)
    by (Err f) given is = absurd cc
    by (Ok a) given more = by_others a given more.gives more.given more.rest

join_elements : (at : ℕ) (e : Data) (ds : Items) (a : Binding) (others : List Binding) → IsElement at e (Ok a) → AreElements (at + 1) ds (Ok others) → AreElements at (item e ds) (Ok (a ∷ others))
join_elements at e ds a others first more = record { gives = Ok a; given = first; rest = record { gives = Ok others; given = more; rest = refl } }

pub element_more : (at : ℕ) (ds : Items) (bs : List Binding) (d : Data) (b : Binding) → AreElements at ds (Ok bs) → IsElement (at + length bs) d (Ok b) → AreElements at (push_item ds d) (Ok (bs ++ b ∷ []))
element_more at no_items bs d b are is =
    let none : bs ≡ [] = cc in
    let here : at + length bs ≡ at = omega (arith, ap length none) in
    rw none (join_elements at d no_items b [] (subst (λ n. IsElement n d (Ok b)) here is) refl)
element_more at (item e ds) bs d b are is =
    let (a, others, whole, first, more) = split_elements at e ds bs are in
    let there : at + length bs ≡ (at + 1) + length others = omega (arith, ap length whole) in
    rw whole (join_elements at e (push_item ds d) a (others ++ b ∷ []) first (element_more (at + 1) ds others d b more (subst (λ n. IsElement n d (Ok b)) there is)))

tables_more : (ds : Items) (ms : Members) → are_tables ds ≡ true → are_tables (push_item ds (table ms)) ≡ true
tables_more no_items ms are = refl
tables_more (item (table m) ds) ms are = tables_more ds ms are
tables_more (item _ ds) ms are = absurd cc

-- the blocks, one after the other
pub first_block : (text : List ℕ) (b : Binding) (rest : List ℕ) → IsBindingBlock 0 text b rest → AreBlocks text (b ∷ []) rest
first_block text b rest block = record {
  done = no_items;
  last = block.last;
  elements = join_elements 0 (table (close block.last)) no_items b [] block.element refl;
  tables = refl;
  goes = block.as_first;
}

pub next_block : (at : ℕ) (text : List ℕ) (bs : List Binding) (rest : List ℕ) (b : Binding) (after : List ℕ) → at ≡ length bs → AreBlocks text bs rest → IsBindingBlock at rest b after → AreBlocks text (bs ++ b ∷ []) after
next_block at text bs rest b after count are block =
    let element : IsElement (0 + length bs) (table (close block.last)) (Ok b) = subst (λ n. IsElement n (table (close block.last)) (Ok b)) (omega (arith, count)) block.element in
    record {
      done = push_item are.done (table (close are.last));
      last = block.last;
      elements = element_more 0 (push_item are.done (table (close are.last))) bs (table (close block.last)) b are.elements element;
      tables = tables_more are.done (close are.last) are.tables;
      goes = λ v s section. goes_on (settings v s, section) (root v s are.done are.last, below_binding) (root v s (push_item are.done (table (close are.last))) block.last, below_binding) text rest after
          (are.goes v s section) (block.as_next v s are.last are.done below_binding);
    }

pub end_blocks : (text : List ℕ) (bs : List Binding) (rest : List ℕ) → AreBlocks text bs rest → length (skip_blank rest) ≡ 0 → AreBindingBlocks text bs
end_blocks text bs rest are none = record {
  ds = push_item are.done (table (close are.last));
  elements = are.elements;
  tables = tables_more are.done (close are.last) are.tables;
  ends = λ v s section n room.
      let (m, less, is) = are.goes v s section n room in
      ((root v s are.done are.last, below_binding), is ∙ lines_end m (root v s are.done are.last, below_binding) rest (omega arith) none, refl);
}
