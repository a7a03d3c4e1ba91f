-- All laws of what is sent, of one verdict.
use Rattle.std.proofs.Common.{◌≡◌, ℕ, ◌-◌, ◌<◌, ◌^◌, ◌⊎◌, inl, inr, ap, arith}
use Rattle.aftr_base.specs.declared.numbers.V4.{V4}
use Rattle.binding_rules.specs.Tables.{BindingTable, IsLawful}
use Rattle.ip_codec.specs.declared.items.Item.{Item}
use Rattle.packet_render.specs.Replies.{IsInRange}
use Rattle.packet_render.specs.Rightly.{AreInRange, IsRightlySent, TellsWhy}
use Rattle.packet_render.specs.Sent.{sent}
use Rattle.packet_render.specs.WhatCame.{CarriesBytes}
use Rattle.binding_rules.specs.declared.settings.Softwire.{Softwire}
use Rattle.verdict_core.specs.Back.{GoesBack, RepliesBack}
use Rattle.verdict_core.proofs.Telling.{tells_what_is_due}
use Rattle.verdict_core.specs.declared.verdicts.Reply.{Reply}
use Rattle.verdict_core.specs.declared.verdicts.Reply.TheVariants as reply
use Rattle.verdict_core.proofs.Backs.{goes_back}
use Rattle.verdict_core.proofs.Items.{fine, some_verdict}
use Rattle.verdict_core.specs.Fitting.{Fits}
use Rattle.verdict_core.specs.Verdicts.{verdict_of}
use Rattle.verdict_core.specs.declared.verdicts.Verdict.{Verdict}
use Rattle.verdict_core.specs.declared.verdicts.Verdict.TheVariants as verdict
use Rattle.packet_render.proofs.CameLemmas.{sends_what_came}
use Rattle.packet_render.proofs.EndLemmas.{errors_reach_owners}
use Rattle.packet_render.proofs.PrivateLemmas.{tunnels_are_owners}
use Rattle.packet_render.proofs.ReplyLemmas.{says_why}

own_in_range : (s : Softwire) (own : V4) → own ≡ s.own → AreInRange s → own.0 < 2 ^ 32
own_in_range s own is range = let same : own.0 ≡ s.own.0 = ap (λ (a : V4). a.0) is in omega (arith, same, range.own)

-- what a reply tells is in range
told_in_range : (s : Softwire) (i : Item) (told : Reply) → RepliesBack s i told → AreInRange s → IsInRange told
told_in_range s i reply.Silent back range = tt
told_in_range s i (reply.Unreachable own way) back range = own_in_range s own back.0 range
told_in_range s i (reply.TooBig own mtu way) back range = (own_in_range s own back.0 range, by_size back.1.1)
  where
    by_size : (mtu ≡ s.mtu6 - 40) ⊎ (mtu ≡ s.mtu4) → mtu < 2 ^ 16
    by_size (inl is) = omega (arith, is, range.mtu6)
    by_size (inr is) = omega (arith, is, range.mtu4)
told_in_range s i (reply.Exceeded own way) back range = own_in_range s own back.0 range
told_in_range s i (reply.Policy from to limit) back range = tt
told_in_range s i (reply.Relay own code mtu way) back range = (own_in_range s own back.0 range, omega (arith, back.1))

tells_why : (s : Softwire) (i : Item) (v : Verdict) (number : ℕ) → Fits i v → GoesBack s i v → CarriesBytes i → AreInRange s → TellsWhy i v (sent i v number)
tells_why s i (verdict.Drop why told) number fits back are range = says_why i told fits are (told_in_range s i told back range)
tells_why s i (verdict.Outward mtu) number fits back are range = tt
tells_why s i (verdict.Inward from to limit mtu back) number fits goes are range = tt
tells_why s i verdict.Held number fits back are range = tt

pub rightly_sent : (t : BindingTable) (i : Item) (number : ℕ) → IsLawful t → IsRightlySent t i (verdict_of t i) number
rightly_sent t i number lawful =
    let is = fine t i (verdict_of t i) lawful (some_verdict t i) in
    record {
      came = sends_what_came i (verdict_of t i) number is.fits is.room;
      owners = tunnels_are_owners t i number lawful;
      errors = errors_reach_owners t i lawful;
      due = tells_what_is_due t i lawful;
      back = goes_back t i;
      why = tells_why t.softwire i (verdict_of t i) number is.fits (goes_back t i);
    }
