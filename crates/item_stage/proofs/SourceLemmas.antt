-- Which way each piece came that waits, and each packet.
use Rattle.std.proofs.Common.{◌≡◌, ℕ, zero, suc, inl, inr, Bool, true, false, List, [], ◌∷◌, ◌++◌, refl, subst, sym, append_assoc}
use Rattle.std.specs.Prelude.{◌==◌, if◌then◌else◌, slice_set, slice_get, slice_index_or, replicate, drop, take, Result, Ok, Err, Option, Some, None}
use Rattle.std.specs.declared.cmp.Ordering.{Ordering}
use Rattle.capture_io.specs.Record.{nanoseconds}
use Rattle.capture_io.specs.Frames.{Carried, carried}
use Rattle.capture_io.specs.Frames.Carried.{Packet4, Packet6, TooFew, Other}
use Rattle.capture_io.specs.declared.forms.Form.{Form}
use Rattle.capture_io.specs.declared.forms.Rec.{Rec}
use Rattle.ip_codec.specs.declared.items.Item.{Item}
use Rattle.ip_codec.specs.declared.items.Item.TheVariants as item
use Rattle.ip_codec.specs.declared.items.Outer.{Outer}
use Rattle.ip_codec.specs.Packet4 as four
use Rattle.ip_codec.specs.Packet6 as six
use Rattle.ip_codec.specs.declared.packet4.Ip4Bad.{Ip4Bad}
use Rattle.ip_codec.specs.declared.packet6.Ip6Bad.{Ip6Bad}
use Rattle.ipv6_chain.specs.Chains.{chain_of}
use Rattle.ipv6_chain.specs.declared.headers.Chain.{Chain}
use Rattle.ipv6_chain.specs.declared.headers.ChainBad.{ChainBad}
use Rattle.ipv6_chain.specs.declared.headers.Frag.{Frag}
use Rattle.ipv6_chain.specs.declared.headers.Start.TheVariants as start
use Rattle.reassembly_lane.specs.Contexts.{Partial}
use Rattle.reassembly_lane.specs.Lanes.{Arrival, fed}
use Rattle.reassembly_lane.specs.declared.answer.Answer.{Answer}
use Rattle.reassembly_lane.specs.declared.answer.Answer.TheVariants as answer
use Rattle.reassembly_lane.specs.declared.parts.Part.{Part}
use Rattle.item_stage.specs.Alone.{Alone, Inside, Settled, Fragment, Ready, Downstream, CutPart, Carries, alone_of, at_end, behind_fragment, behind_headers, by_chain, by_inner_chain, from_network, from_tunnel, in_frame, in_tunnel, is_cut, outer_of}
use Rattle.item_stage.specs.Fragments.{by_down_key, by_inner_key, by_outer_key, down_key, inner_key, lane_of, outer_key, part_of4, part_of6}
use Rattle.item_stage.specs.Items.{entries_of, items_in}
use Rattle.item_stage.specs.Rejoined.{rejoined}
use Rattle.item_stage.specs.Sources.{Among, CameFrom, CameInside, CameOutside, Each, IsCutOf, IsOfOneWay}
use Rattle.item_stage.specs.Turns.{Turn, arriving, down_fed, down_item, first_next, inner_fed, inside_turn, entries_from, no_rows, outer_fed, outer_turn, turn, turn_of, up_item}
use Rattle.item_stage.specs.Waiting.{RowTurn, Waiting, lane_at, row_fed}
use Rattle.item_stage.specs.declared.keys.DownKey.{DownKey}
use Rattle.item_stage.specs.declared.keys.InnerKey.{InnerKey}
use Rattle.item_stage.specs.declared.keys.OuterKey.{OuterKey}
use Rattle.item_stage.specs.declared.rows.Rows.{Rows}
use Rattle.item_stage.proofs.KeyLemmas.{down_same, inner_same, outer_same}
use Rattle.item_stage.proofs.LaneLemmas.{IsOfKeys, MadeOf, Waits, among_last, among_more, each_weaker, keeps_fed}

-- ---- keys
module _ (form : Form) (rs : List Rec) where
  abbrev OfOuter : OuterKey → Part → Type 0
  OfOuter key piece = Among (IsCutOf form key piece) rs

  abbrev OfInner : InnerKey → Part → Type 0
  OfInner key piece = CameFrom form rs key piece

  abbrev OfDown : DownKey → Part → Type 0
  OfDown key piece = CameOutside form rs key piece

  outer_keys : IsOfKeys OfOuter by_outer_key
  outer_keys = record {
    to = λ a b piece e is. subst (λ (k : OuterKey). OfOuter k piece) (outer_same a b e) is;
    fro = λ a b piece e is. subst (λ (k : OuterKey). OfOuter k piece) (sym (outer_same a b e)) is;
  }

  inner_keys : IsOfKeys OfInner by_inner_key
  inner_keys = record {
    to = λ a b piece e is. subst (λ (k : InnerKey). OfInner k piece) (inner_same a b e) is;
    fro = λ a b piece e is. subst (λ (k : InnerKey). OfInner k piece) (sym (inner_same a b e)) is;
  }

  down_keys : IsOfKeys OfDown by_down_key
  down_keys = record {
    to = λ a b piece e is. subst (λ (k : DownKey). OfDown k piece) (down_same a b e) is;
    fro = λ a b piece e is. subst (λ (k : DownKey). OfDown k piece) (sym (down_same a b e)) is;
  }

-- ---- a row
each_at : {X : Type 0} (P : X → Type 0) (xs : List X) (n : ℕ) (d : X) → Each P xs → P d → P (slice_index_or xs n d)
each_at P [] n d each is = is
each_at P (x ∷ xs) zero d each is = each.0
each_at P (x ∷ xs) (suc n) d each is = each_at P xs n d each.1 is

each_changed : {X : Type 0} (P : X → Type 0) (xs : List X) (n : ℕ) (x : X) → Each P xs → P x → Each P (slice_set xs n x)
each_changed P [] n x each is = tt
each_changed P (y ∷ xs) zero x each is = (is, each.1)
each_changed P (y ∷ xs) (suc n) x each is = (each.0, each_changed P xs n x each.1 is)

record KeepsRow {K : Type 0} (P : K → Part → Type 0) (key : K) (turn : RowTurn K) : Type 0 where
  waits : Each (Waits P) turn.row
  answer : MadeOf (P key) turn.answer

keeps_row : {K : Type 0} (P : K → Part → Type 0) (cmp : K → K → Ordering) → IsOfKeys P cmp → (row : Waiting K) (lane : ℕ) (piece : Arrival K) →
    Each (Waits P) row → P piece.key piece.part → KeepsRow P piece.key (row_fed cmp row lane piece)
keeps_row P cmp keys row lane piece each is =
    let kept = keeps_fed P cmp keys (lane_at row lane) piece is (each_at (Waits P) row lane [] each tt) in
    record { waits = each_changed (Waits P) row lane (fed cmp (lane_at row lane) piece).contexts each kept.waits; answer = kept.answer }

-- ---- what a record is
abbrev Fine : Outer → Inside → Type 0
Fine outer (Settled (item.Up o packet)) = o ≡ outer
Fine outer (Settled (item.Down packet)) = ⊥
Fine outer (Settled _) = Unit {0}
Fine outer (Fragment o key part) = (o ≡ outer) × (key.tunnel_src ≡ o.src)

fine_packet : (outer : Outer) (bytes : List ℕ) (r : Result four.Packet4 Ip4Bad) → Fine outer (in_tunnel outer bytes r)
fine_packet outer bytes (Ok packet) = by_fragment (four.is_fragment packet)
  where
    by_fragment : (b : Bool) → Fine outer (if b then Fragment outer (inner_key outer packet) (part_of4 packet) else Settled (item.Up outer (four.whole4 packet)))
    by_fragment true = (refl, refl)
    by_fragment false = refl
fine_packet outer bytes (Err why) = refl

fine_headers : (outer : Outer) (next : ℕ) (bytes : List ℕ) → Fine outer (behind_headers outer next bytes)
fine_headers outer next bytes = by_next (next == 4) (next == 58)
  where
    by_next : (a b : Bool) → Fine outer
        (if a then in_tunnel outer bytes (four.ip4_of bytes) else if b then Settled (item.Icmp6 outer.src outer.dst bytes) else Settled (item.OtherIp6 outer.dst))
    by_next true b = fine_packet outer bytes (four.ip4_of bytes)
    by_next false true = tt
    by_next false false = tt

fine_inner : (outer : Outer) (body : List ℕ) (r : Result Chain ChainBad) → Fine outer (by_inner_chain outer body r)
fine_inner outer body (Ok chain) = fine_headers outer chain.next (drop chain.at body)
fine_inner outer body (Err why) = tt

fine_fragment : (outer : Outer) (next : ℕ) (body : List ℕ) → Fine outer (behind_fragment outer next body)
fine_fragment outer next body = fine_inner outer body (chain_of next body start.AfterFragment)

abbrev FineAlone : Alone → Type 0
FineAlone (Ready (item.Up outer packet)) = ⊥
FineAlone (Ready _) = Unit {0}
FineAlone (Downstream key part) = Unit {0}
FineAlone (CutPart outer key part) = key.src ≡ outer.src
FineAlone (Carries inside) = (outer : Outer) × Fine outer inside

fine_network : (r : Result four.Packet4 Ip4Bad) → FineAlone (from_network r)
fine_network (Ok packet) = by_fragment (four.is_fragment packet)
  where
    by_fragment : (b : Bool) → FineAlone (if b then Downstream (down_key packet) (part_of4 packet) else Ready (item.Down (four.whole4 packet)))
    by_fragment true = tt
    by_fragment false = tt
fine_network (Err why) = tt

fine_end : (outer : Outer) (next : ℕ) (bytes : List ℕ) (o : Option Frag) → FineAlone (at_end outer next bytes o)
fine_end outer next bytes None = (outer, fine_headers outer next bytes)
fine_end outer next bytes (Some fragment) = by_cut (is_cut fragment)
  where
    by_cut : (b : Bool) → FineAlone (if b then CutPart outer (outer_key outer fragment.id) (part_of6 fragment.offset fragment.more next bytes) else Carries (behind_fragment outer next bytes))
    by_cut true = refl
    by_cut false = (outer, fine_fragment outer next bytes)

fine_chain : (outer : Outer) (body : List ℕ) (r : Result Chain ChainBad) → FineAlone (by_chain outer body r)
fine_chain outer body (Ok chain) = fine_end outer chain.next (drop chain.at body) chain.fragment
fine_chain outer body (Err why) = tt

fine_tunnel : (r : Result six.Packet6 Ip6Bad) → FineAlone (from_tunnel r)
fine_tunnel (Ok packet) = fine_chain (outer_of packet) packet.body (chain_of packet.next packet.body start.Packet)
fine_tunnel (Err why) = tt

fine_frame : (c : Carried) → FineAlone (in_frame c)
fine_frame (Packet4 bytes) = fine_network (four.ip4_of bytes)
fine_frame (Packet6 bytes) = fine_tunnel (six.ip6_of bytes)
fine_frame TooFew = tt
fine_frame Other = tt

-- ---- all that waits
record Came (form : Form) (rs : List Rec) (rows : Rows) : Type 0 where
  outer : Each (Waits (OfOuter form rs)) rows.outer
  inner : Each (Waits (OfInner form rs)) rows.inner
  down : Each (Waits (OfDown form rs)) rows.down

-- more records
module _ (form : Form) (rs more : List Rec) where
  cut_more : (key : OuterKey) (piece : Part) → Among (IsCutOf form key piece) rs → Among (IsCutOf form key piece) (rs ++ more)
  cut_more key piece is = among_more (IsCutOf form key piece) rs more is

  inside_more : (outer : Outer) (inside : Inside) → CameInside form rs outer inside → CameInside form (rs ++ more) outer inside
  inside_more outer inside (inl here) = inl (among_more _ rs more here)
  inside_more outer inside (inr joined) = inr (record {
    key = joined.key;
    source = joined.source;
    pieces = joined.pieces;
    end = joined.end;
    each = each_weaker (λ piece. Among (IsCutOf form joined.key piece) rs) (λ piece. Among (IsCutOf form joined.key piece) (rs ++ more)) (λ piece is. cut_more joined.key piece is) joined.pieces joined.each;
    is = joined.is;
  })

  from_more : (key : InnerKey) (piece : Part) → CameFrom form rs key piece → CameFrom form (rs ++ more) key piece
  from_more key piece is = record { outer = is.outer; came = inside_more is.outer (Fragment is.outer key piece) is.came; source = is.source }

  outside_more : (key : DownKey) (piece : Part) → CameOutside form rs key piece → CameOutside form (rs ++ more) key piece
  outside_more key piece is = among_more _ rs more is

  waits_more : {K : Type 0} (P Q : K → Part → Type 0) → ((key : K) (piece : Part) → P key piece → Q key piece) → (row : Waiting K) → Each (Waits P) row → Each (Waits Q) row
  waits_more {K = K} P Q weaker row each =
      each_weaker (Waits P) (Waits Q)
      (λ es. each_weaker (λ (e : K × Partial). Each (P e.0) e.1.parts) (λ (e : K × Partial). Each (Q e.0) e.1.parts)
      (λ e. each_weaker (P e.0) (Q e.0) (weaker e.0) e.1.parts) es) row each

  came_more : (rows : Rows) → Came form rs rows → Came form (rs ++ more) rows
  came_more rows came = record {
    outer = waits_more (OfOuter form rs) (OfOuter form (rs ++ more)) (λ key piece is. cut_more key piece is) rows.outer came.outer;
    inner = waits_more (OfInner form rs) (OfInner form (rs ++ more)) (λ key piece is. from_more key piece is) rows.inner came.inner;
    down = waits_more (OfDown form rs) (OfDown form (rs ++ more)) (λ key piece is. outside_more key piece is) rows.down came.down;
  }

-- ---- a turn
record Turns (form : Form) (rs : List Rec) (turn : Turn) : Type 0 where
  rows : Came form rs turn.rows
  item : IsOfOneWay form rs turn.entry.item

module _ (form : Form) (rs : List Rec) where
  settled : (outer : Outer) (i : Item) → Fine outer (Settled i) → CameInside form rs outer (Settled i) → IsOfOneWay form rs i
  settled outer (item.Up o packet) fine came = inl (subst (λ (x : Outer). CameInside form rs x (Settled (item.Up o packet))) (sym fine) came)
  settled outer (item.Down packet) fine came = absurd fine
  settled outer (item.OtherIp6 dst) fine came = tt
  settled outer (item.Icmp6 src dst message) fine came = tt
  settled outer item.Held fine came = tt
  settled outer (item.Bad why) fine came = tt

  packet_up : (outer : Outer) (key : InnerKey) (a : Answer) → key.tunnel_src ≡ outer.src → MadeOf (OfInner form rs key) a → IsOfOneWay form rs (up_item outer a)
  packet_up outer key answer.Held same made = tt
  packet_up outer key (answer.Refused why) same made = tt
  packet_up outer key (answer.Whole head body) same made = inr (
    key,
    (
      same,
      record {
        pieces = made.0;
        end = made.1.0;
        each = made.1.1.0;
        is = λ i. rejoined (made.1.1.1.0 i) (made.1.1.1.1 i);
      },
    ),
  )

  packet_down : (key : DownKey) (a : Answer) → MadeOf (OfDown form rs key) a → IsOfOneWay form rs (down_item a)
  packet_down key answer.Held made = tt
  packet_down key (answer.Refused why) made = tt
  packet_down key (answer.Whole head body) made = inr (
    key,
    record {
      pieces = made.0;
      end = made.1.0;
      each = made.1.1.0;
      is = λ i. rejoined (made.1.1.1.0 i) (made.1.1.1.1 i);
    },
  )

  inside_turns : (rows : Rows) (time number : ℕ) (ended : List ℕ) (outer : Outer) (inside : Inside) → Came form rs rows → Fine outer inside →
      CameInside form rs outer inside → Turns form rs (inside_turn rows time number ended inside)
  inside_turns rows time number ended outer (Settled ready) came fine is = record { rows = came; item = settled outer ready fine is }
  inside_turns rows time number ended outer (Fragment o key part) came fine is =
      let here : CameFrom form rs key part = record {
        outer = o;
        came = subst (λ (x : Outer). CameInside form rs x (Fragment o key part)) (sym fine.0) is;
        source = fine.1;
      } in
      let kept = keeps_row (OfInner form rs) by_inner_key (inner_keys form rs) rows.inner (lane_of key.id) (arriving key time number part) came.inner here in
      record { rows = record { outer = came.outer; inner = kept.waits; down = came.down }; item = packet_up o key (inner_fed rows.inner time number key part).answer fine.1 kept.answer }

  outer_turns : (rows : Rows) (time number : ℕ) (ended : List ℕ) (outer : Outer) (key : OuterKey) (a : Answer) → key.src ≡ outer.src → Came form rs rows →
      MadeOf (OfOuter form rs key) a → Turns form rs (outer_turn rows time number ended outer a)
  outer_turns rows time number ended outer key answer.Held same came made = record { rows = came; item = tt }
  outer_turns rows time number ended outer key (answer.Refused why) same came made = record { rows = came; item = tt }
  outer_turns rows time number ended outer key (answer.Whole head body) same came made =
      inside_turns rows time number ended outer (behind_fragment outer (first_next head) body) came (fine_fragment outer (first_next head) body)
      (inr (record {
        key = key;
        source = same;
        pieces = made.0;
        end = made.1.0;
        each = made.1.1.0;
        is = λ i. behind_fragment outer (first_next (sym made.1.1.1.0 i)) (sym made.1.1.1.1 i);
      }))

  alone_turns : (rows : Rows) (time number : ℕ) (a : Alone) → Came form rs rows → FineAlone a → Among (λ r. alone_of form r.bytes ≡ a) rs →
      Turns form rs (turn_of rows time number a)
  alone_turns rows time number (Ready i) came fine is = record { rows = came; item = by_item i fine is }
    where
      by_item : (i : Item) → FineAlone (Ready i) → Among (λ r. alone_of form r.bytes ≡ Ready i) rs → IsOfOneWay form rs i
      by_item (item.Up outer packet) fine is = absurd fine
      by_item (item.Down packet) fine is = inl is
      by_item (item.OtherIp6 dst) fine is = tt
      by_item (item.Icmp6 src dst message) fine is = tt
      by_item item.Held fine is = tt
      by_item (item.Bad why) fine is = tt
  alone_turns rows time number (Downstream key part) came fine is =
      let kept = keeps_row (OfDown form rs) by_down_key (down_keys form rs) rows.down (lane_of key.id) (arriving key time number part) came.down is in
      record { rows = record { outer = came.outer; inner = came.inner; down = kept.waits }; item = packet_down key (down_fed rows.down time number key part).answer kept.answer }
  alone_turns rows time number (CutPart outer key part) came fine is =
      let here : Among (IsCutOf form key part) rs = each_of rs is in
      let kept = keeps_row (OfOuter form rs) by_outer_key (outer_keys form rs) rows.outer (lane_of key.id) (arriving key time number part) came.outer here in
      outer_turns (record rows { outer = (outer_fed rows.outer time number key part).row }) time number (outer_fed rows.outer time number key part).ended outer key
      (outer_fed rows.outer time number key part).answer fine (record { outer = kept.waits; inner = came.inner; down = came.down }) kept.answer
    where
      each_of : (xs : List Rec) → Among (λ r. alone_of form r.bytes ≡ CutPart outer key part) xs → Among (IsCutOf form key part) xs
      each_of [] some = absurd some
      each_of (x ∷ xs) (inl here) = inl (record { outer = outer; is = here; source = fine })
      each_of (x ∷ xs) (inr later) = inr (each_of xs later)
  alone_turns rows time number (Carries inside) came fine is = inside_turns rows time number [] fine.0 inside came fine.1 (inl is)

one_turn : (form : Form) (front : List Rec) (r : Rec) (rows : Rows) (number : ℕ) → Came form front rows → Turns form (front ++ r ∷ []) (turn form rows number r)
one_turn form front r rows number came =
    alone_turns form (front ++ r ∷ []) rows (nanoseconds form r.seconds r.fraction) number (alone_of form r.bytes) (came_more form front (r ∷ []) rows came)
    (fine_frame (carried form.link r.bytes)) (among_last (λ x. alone_of form x.bytes ≡ alone_of form r.bytes) front r refl)

nothing : {K : Type 0} (P : K → Part → Type 0) (n : ℕ) → Each (Waits P) (replicate n [])
nothing P zero = tt
nothing P (suc n) = (tt, nothing P n)

none_came : (form : Form) → Came form [] no_rows
none_came form = record { outer = nothing (OfOuter form []) 16; inner = nothing (OfInner form []) 16; down = nothing (OfDown form []) 16 }

-- each entry from a number on
way_from : (form : Form) (before rs : List Rec) (rows : Rows) (number at : ℕ) (i : Item) → Came form before rows →
    slice_get (items_in (entries_from form rows number rs)) at ≡ Some i → IsOfOneWay form (before ++ take (suc at) rs) i
way_from form before [] rows number at i came there = absurd cc
way_from form before (r ∷ rs) rows number zero i came there =
    let this : (turn form rows number r).entry.item ≡ i = cc in
    subst (λ (x : Item). IsOfOneWay form (before ++ r ∷ []) x) this (one_turn form before r rows number came).item
way_from form before (r ∷ rs) rows number (suc at) i came there =
    subst (λ (l : List Rec). IsOfOneWay form l i) (append_assoc before (r ∷ []) (take (suc at) rs))
    (way_from form (before ++ r ∷ []) rs (turn form rows number r).rows (suc number) at i (one_turn form before r rows number came).rows there)

pub one_way : (form : Form) (rs : List Rec) (number : ℕ) (i : Item) → slice_get (items_in (entries_of form rs)) number ≡ Some i →
    IsOfOneWay form (take (suc number) rs) i
one_way form rs number i there = way_from form [] rs no_rows 0 number i (none_came form) there
