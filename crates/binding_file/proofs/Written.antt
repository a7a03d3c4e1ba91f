-- The tables that the writer makes. The keys of a table ascend.
use Rattle.std.proofs.Common.{◌≡◌, ℕ, ◌<◌, ◌≤◌, ◌^◌, pos, List, [], ◌∷◌, ◌++◌, ◌+◌, length, take, get_or, Ok, codes, refl, ap, sym, ◌∙◌, subst, arith}
use Rattle.std.proofs.lemmas.Bool.{le-leb}
use Rattle.std.proofs.lemmas.List.{take_more}
use Rattle.toml.specs.View.{view, items_view}
use Rattle.toml.specs.declared.value.Value.{Value}
use Rattle.toml.proofs.Views.{items_view-push}
use Rattle.addr_text.specs.Ipv4.{IsV4Text}
use Rattle.addr_text.specs.Ipv6.{IsV6Text}
use Rattle.binding_rules.specs.Tables.{BindingTable, binding_table}
use Rattle.binding_rules.specs.declared.binding.Binding.{Binding}
use Rattle.binding_rules.specs.declared.settings.Edition.{Edition}
use Rattle.binding_rules.specs.declared.settings.Edition.TheVariants as edition
use Rattle.binding_rules.specs.declared.settings.Softwire.{Softwire}
use Rattle.toml.specs.Data.{Data, string, integer, boolean, array, table, Items, Members, no_members, member, members_depth, push_item}
use Rattle.binding_file.specs.Keys.{number_at, flag_at, has_other}
use Rattle.binding_file.specs.Files.{settings_of, port_set_of, IsSoftwire, IsElement, IsTree, AreBindings}
use Rattle.binding_file.specs.Parts.{with_member, edition_number, IsSpelled, AreSpelled, IsSoftwireData, AreBindingsData}
use Rattle.binding_file.proofs.Trees.{spelled_elements, spelled_tables, spelled_depth, spelled_push}

-- a table's settings, as a tree
abbrev pub softwire_members : List ℕ → List ℕ → Softwire → Members
softwire_members aftr own s =
    member (codes "aftr") (string aftr) (member (codes "errors_down") (boolean s.errors_down) (member (codes "errors_up") (boolean s.errors_up)
    (member (codes "hairpin") (boolean s.hairpin) (member (codes "hop_limit") (integer (pos s.hop_limit)) (member (codes "icmp_in") (boolean s.icmp_in)
    (member (codes "mtu4") (integer (pos s.mtu4)) (member (codes "mtu6") (integer (pos s.mtu6)) (member (codes "own") (string own) no_members))))))))

abbrev pub binding_members : List ℕ → List ℕ → Binding → Members
binding_members b4 v4 b =
    member (codes "b4") (string b4) (member (codes "ipv4") (string v4) (member (codes "length") (integer (pos b.length))
    (member (codes "offset") (integer (pos b.offset)) (member (codes "psid") (integer (pos b.psid)) no_members))))

abbrev pub top_members : Edition → Data → Data → Members
top_members e s bs = member (codes "binding") bs (member (codes "softwire") s (member (codes "version") (integer (pos (edition_number e))) no_members))

settings_written : (aftr own : List ℕ) (s : Softwire) → s.mtu6 < 2 ^ 16 → s.mtu4 < 2 ^ 16 → s.hop_limit < 2 ^ 8 → settings_of (softwire_members aftr own s) s.aftr s.own ≡ Ok s
unfolding settings_of number_at flag_at has_other
settings_written aftr own s a b h = rw (le-leb s.mtu6 65535 (omega arith), le-leb s.mtu4 65535 (omega arith), le-leb s.hop_limit 255 (omega arith)) refl

port_set_written : (at : ℕ) (b4 v4 : List ℕ) (b : Binding) → b.offset < 2 ^ 8 → b.length < 2 ^ 8 → b.psid < 2 ^ 16 → port_set_of at (binding_members b4 v4 b) b.b4 b.v4 ≡ Ok b
unfolding port_set_of number_at has_other
port_set_written at b4 v4 b o l p = rw (le-leb b.offset 255 (omega arith), le-leb b.length 255 (omega arith), le-leb b.psid 65535 (omega arith)) refl

pub softwire_written : (d : Data) (aftr own : List ℕ) (s : Softwire) → d ≡ table (softwire_members aftr own s) → IsV6Text aftr s.aftr.0 → IsV4Text own s.own.0 → s.mtu6 < 2 ^ 16 → s.mtu4 < 2 ^ 16 → s.hop_limit < 2 ^ 8 → IsSoftwireData d s
softwire_written d aftr own s e v6 v4 a b h = record {
  members = softwire_members aftr own s;
  is = e;
  spelled = record { gives = Ok s.aftr; given = v6; rest = record { gives = Ok s.own; given = v4; rest = sym (settings_written aftr own s a b h) } };
  flat = refl;
}

pub binding_written : (d : Data) (b4 v4 : List ℕ) (b : Binding) → d ≡ table (binding_members b4 v4 b) → IsV6Text b4 b.b4.0 → IsV4Text v4 b.v4.0 → b.offset < 2 ^ 8 → b.length < 2 ^ 8 → b.psid < 2 ^ 16 → IsSpelled d b
binding_written d b4 v4 b e six four o l p = record {
  element = λ at. subst (λ x. IsElement at x (Ok b)) (sym e) (record { gives = Ok b.b4; given = six; rest = record { gives = Ok b.v4; given = four; rest = sym (port_set_written at b4 v4 b o l p) } });
  is_table = rw e refl;
  flat = rw e (omega arith);
}

tree_of_edition : (e : Edition) (s : Softwire) (bs : List Binding) (sm : Members) (ds : Items) → IsSoftwire sm (Ok s) → AreBindings (top_members e (table sm) (array ds)) (Ok bs) → IsTree (top_members e (table sm) (array ds)) (Ok (binding_table e s bs))
unfolding has_other
tree_of_edition edition.One s bs sm ds h k = record { gives = Ok s; given = h; rest = record { gives = Ok bs; given = k; rest = refl } }
tree_of_edition edition.Two s bs sm ds h k = record { gives = Ok s; given = h; rest = record { gives = Ok bs; given = k; rest = refl } }

bindings_written : (e : Edition) (s : Data) (ds : Items) (bs : List Binding) → AreSpelled ds bs → AreBindings (top_members e s (array ds)) (Ok bs)
bindings_written e s ds bs h = rw (spelled_tables ds bs h) (spelled_elements 0 ds bs h)

pub tree_written : (m : Members) (t : BindingTable) (s bs : Data) → m ≡ top_members t.edition s bs → IsSoftwireData s t.softwire → AreBindingsData bs t.bindings → IsTree m (Ok t)
tree_written m t s bs e h k =
    let same : m ≡ top_members t.edition (table h.members) (array k.items) = e ∙ ap (λ x. top_members t.edition x bs) h.is ∙ ap (λ y. top_members t.edition (table h.members) y) k.is in
    subst (λ x. IsTree x (Ok t)) (sym same) (tree_of_edition t.edition t.softwire t.bindings h.members k.items h.spelled (bindings_written t.edition (table h.members) k.items t.bindings k.spelled))

pub flat_written : (m : Members) (t : BindingTable) (s bs : Data) → m ≡ top_members t.edition s bs → IsSoftwireData s t.softwire → AreBindingsData bs t.bindings → members_depth m ≤ 2
flat_written m t s bs e h k =
    let same : m ≡ top_members t.edition (table h.members) (array k.items) = e ∙ ap (λ x. top_members t.edition x bs) h.is ∙ ap (λ y. top_members t.edition (table h.members) y) k.is in
    rw same (omega (arith, h.flat, spelled_depth k.items t.bindings k.spelled))

-- the steps of the writer, each a value put at a key
pub top_put : (m0 m1 m2 m3 : Members) (e : Edition) (v s bs : Data) → m0 ≡ no_members → v ≡ integer (pos (edition_number e)) → m1 ≡ with_member (codes "version") v m0 → m2 ≡ with_member (codes "softwire") s m1 → m3 ≡ with_member (codes "binding") bs m2 → m3 ≡ top_members e s bs
top_put m0 m1 m2 m3 e v s bs z a p q r = rw (r, q, p, z, a) refl

pub binding_put : (m0 m1 m2 m3 m4 m5 : Members) (b : Binding) (b4 v4 : List ℕ) (d1 d2 d3 d4 d5 : Data) → m0 ≡ no_members
    → d1 ≡ string b4 → d2 ≡ string v4 → d3 ≡ integer (pos b.offset) → d4 ≡ integer (pos b.length) → d5 ≡ integer (pos b.psid)
    → m1 ≡ with_member (codes "b4") d1 m0 → m2 ≡ with_member (codes "ipv4") d2 m1 → m3 ≡ with_member (codes "offset") d3 m2 → m4 ≡ with_member (codes "length") d4 m3 → m5 ≡ with_member (codes "psid") d5 m4
    → m5 ≡ binding_members b4 v4 b
binding_put m0 m1 m2 m3 m4 m5 b b4 v4 d1 d2 d3 d4 d5 z e1 e2 e3 e4 e5 p1 p2 p3 p4 p5 = rw (p5, p4, p3, p2, p1, z, e1, e2, e3, e4, e5) refl

pub softwire_put : (m0 m1 m2 m3 m4 m5 m6 m7 m8 m9 : Members) (s : Softwire) (aftr own : List ℕ) (d1 d2 d3 d4 d5 d6 d7 d8 d9 : Data) → m0 ≡ no_members
    → d1 ≡ string aftr → d2 ≡ string own → d3 ≡ integer (pos s.mtu6) → d4 ≡ integer (pos s.mtu4) → d5 ≡ integer (pos s.hop_limit) → d6 ≡ boolean s.hairpin → d7 ≡ boolean s.icmp_in → d8 ≡ boolean s.errors_up → d9 ≡ boolean s.errors_down
    → m1 ≡ with_member (codes "aftr") d1 m0 → m2 ≡ with_member (codes "own") d2 m1 → m3 ≡ with_member (codes "mtu6") d3 m2 → m4 ≡ with_member (codes "mtu4") d4 m3 → m5 ≡ with_member (codes "hop_limit") d5 m4 → m6 ≡ with_member (codes "hairpin") d6 m5
    → m7 ≡ with_member (codes "icmp_in") d7 m6 → m8 ≡ with_member (codes "errors_up") d8 m7 → m9 ≡ with_member (codes "errors_down") d9 m8
    → m9 ≡ softwire_members aftr own s
softwire_put m0 m1 m2 m3 m4 m5 m6 m7 m8 m9 s aftr own d1 d2 d3 d4 d5 d6 d7 d8 d9 z e1 e2 e3 e4 e5 e6 e7 e8 e9 p1 p2 p3 p4 p5 p6 p7 p8 p9 =
    rw (p9, p8, p7, p6, p5, p4, p3, p2, p1, z, e1, e2, e3, e4, e5, e6, e7, e8, e9) refl

pub spelled_more : (vs : List Value) (bs : List Binding) (i : ℕ) (v : Value) (d : Binding) → i < length bs → AreSpelled (items_view vs) (take i bs) → IsSpelled (view v) (get_or bs i d) → AreSpelled (items_view (vs ++ v ∷ [])) (take (i + 1) bs)
spelled_more vs bs i v d within h k =
    subst (λ ds. AreSpelled ds (take (i + 1) bs)) (sym (items_view-push vs v))
    (subst (λ xs. AreSpelled (push_item (items_view vs) (view v)) xs) (sym (take_more bs i d within)) (spelled_push (items_view vs) (take i bs) (view v) (get_or bs i d) h k))
