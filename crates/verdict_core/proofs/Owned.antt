-- The owner of what a packet asks for, and the packet itself.
use Rattle.std.proofs.Common.{◌≡◌, ℕ, ◌==◌, ◌≤◌, if◌then◌else◌, Bool, true, false, List, [], ◌∷◌, length, Option, Some, refl, ap, ◌∙◌, arith}
use Rattle.std.proofs.lemmas.Bool.{eqb-true, eq-eqb}
use Rattle.aftr_base.specs.declared.numbers.V6.{V6}
use Rattle.binding_rules.specs.Bindings.{bound}
use Rattle.binding_rules.specs.Tables.{BindingTable, IsLawful}
use Rattle.binding_rules.specs.declared.binding.Binding.{Binding}
use Rattle.binding_rules.specs.declared.binding.Want.{Want}
use Rattle.icmp_codec.specs.Message4.{icmp4_of}
use Rattle.ip_codec.specs.Packet4.{Packet4, is_fragment}
use Rattle.port_locate.specs.Keys.{icmp_key, key_at, key_of, plain_want}
use Rattle.port_locate.specs.declared.keys.Key.{Key}
use Rattle.port_locate.specs.declared.keys.Key.TheVariants as key
use Rattle.table_words.specs.Answers.{first_b4}
use Rattle.verdict_core.specs.Access.{IsOwner}
use Rattle.verdict_core.specs.Answers.{ends_at}
use Rattle.verdict_core.specs.Verdicts.{owner_end}

-- what a key asks for, and its one owner
pub record HasOwner (t : BindingTable) (address : ℕ) (k : Key) (end : ℕ) : Type 0 where
  pub want : Want
  pub key : k ≡ key.At want
  pub owner : IsOwner t address want end

pub owner_of : (t : BindingTable) (address : ℕ) (k : Key) (end : ℕ) → IsLawful t → ends_at (owner_end t address k) end ≡ true →
    HasOwner t address k end
owner_of t address key.NoPort end lawful is = absurd cc
owner_of t address key.IcmpBad end lawful is = absurd cc
owner_of t address (key.At want) end lawful is = record {
  want = want;
  key = refl;
  owner = among (bound t.bindings (record { 0 = address }) want) refl (lawful.at_most_one (record { 0 = address }) want) is;
}
  where
    among : (owners : List Binding) → bound t.bindings (record { 0 = address }) want ≡ owners → length owners ≤ 1 →
        ends_at (first_b4 owners) end ≡ true → IsOwner t address want end
    among [] e few is = absurd cc
    among (x ∷ []) e few is = record { binding = x; owner = e; ends = eqb-true _ _ is }
    among (x ∷ y ∷ rest) e few is = absurd (omega (arith, few))

-- the same where the end of the owner's tunnel is known
pub owner_known : (t : BindingTable) (address : ℕ) (k : Key) (end : V6) → IsLawful t → owner_end t address k ≡ Some end →
    HasOwner t address k end.0
owner_known t address k end lawful is =
    owner_of t address k end.0 lawful (ap (λ (o : Option V6). ends_at o end.0) is ∙ eq-eqb end.0 end.0 refl)

-- an owner's tunnel ends where the table says
pub owner_ends : (t : BindingTable) (address : ℕ) (k : Key) (want : Want) (end : ℕ) → k ≡ key.At want → IsOwner t address want end →
    ends_at (owner_end t address k) end ≡ true
owner_ends t address k want end asks o =
    ap (λ (x : Key). ends_at (owner_end t address x) end) asks
    ∙ ap (λ (owners : List Binding). ends_at (first_b4 owners) end) o.owner
    ∙ eq-eqb o.binding.b4.0 end o.ends

-- a packet that asks for something is no fragment
pub whole_packet : (at quoted : ℕ) (p : Packet4) (want : Want) → key_at at quoted p ≡ key.At want → is_fragment p ≡ false
whole_packet at quoted p want = by_fragment (is_fragment p)
    (if p.protocol == 1 then icmp_key (icmp4_of p.payload) quoted else key_of (plain_want p.protocol p.payload at))
  where
    by_fragment : (fragment : Bool) (k : Key) → (if fragment then key.NoPort else k) ≡ key.At want → fragment ≡ false
    by_fragment true k is = absurd cc
    by_fragment false k is = refl
