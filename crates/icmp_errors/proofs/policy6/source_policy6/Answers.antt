-- What is appended to nothing.
use Rattle.std.proofs.Common.{◌≡◌, List, ℕ, ◌++◌, sym, ◌∙◌, ap, subst}
use Rattle.icmp_errors.specs.Policy6.{TellsPolicy, policy6}
use Rattle.icmp_errors.proofs.PushLemmas.{appended_ok}
use Rattle.icmp_errors.proofs.policy6.source_policy6.Goals as goal

pub returns-clause-bytes : goal.returns-clause-bytes
returns-clause-bytes c =
    let packet = policy6 c.args.from c.args.to c.args.hop c.args.outer.now c.args.inner.now in
    c.of.ensures
    ∙ (appended_ok c.push_source_policy6.result c.in_ok-push_source_policy6.field-0 c.push_source_policy6.new.list.items c.new-list.result.items packet
    c.in_ok-push_source_policy6.was c.push_source_policy6.ensures.bytes
    ∙ ap (λ l. l ++ packet) c.new-list.ensures.items)

pub returns-clause-told : goal.returns-clause-told
returns-clause-told c =
    let packet = policy6 c.args.from c.args.to c.args.hop c.args.outer.now c.args.inner.now in
    let Told : List ℕ → Type 0 = λ bytes. TellsPolicy c.args.from c.args.to c.args.hop c.args.outer.now c.args.inner.now bytes in
    let is : c.of.result ≡ packet =
    c.of.ensures
    ∙ (appended_ok c.push_source_policy6.result c.in_ok-push_source_policy6.field-0 c.push_source_policy6.new.list.items c.new-list.result.items packet
    c.in_ok-push_source_policy6.was c.push_source_policy6.ensures.bytes
    ∙ ap (λ l. l ++ packet) c.new-list.ensures.items) in
    subst Told (sym is) c.in_ok-push_source_policy6.ensures.told
