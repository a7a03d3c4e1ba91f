use Rattle.std.proofs.Common.{ℕ, List, subst, sym, arith}
use Rattle.ip_codec.specs.Seen.{seen}
use Rattle.table_words.specs.Layout.{IsCompiled}
use Rattle.verdict_core.proofs.Firsts.{judged, only_verdict}
use Rattle.verdict_core.proofs.Going.{brings_in, sends_on}
use Rattle.verdict_core.proofs.Items.{fine, first_is}
use Rattle.verdict_core.proofs.Looks.{reads_so_many, reads_then}
use Rattle.verdict_core.proofs.Passing.{passes_on}
use Rattle.verdict_core.proofs.Relaying.{relays_all}
use Rattle.verdict_core.proofs.Sending.{forbidden, forwards, refused}
use Rattle.verdict_core.proofs.judging.judge.Goals as goal

pub judge_into-requires-clause-settings : goal.judge_into-requires-clause-settings
judge_into-requires-clause-settings g c = λ t h.
    c.softwire-settings.ensures.value t (subst (λ (ws : List ℕ). IsCompiled t ws) c.softwire-settings.ensures.list h)

pub returns-clause-verdict : goal.returns-clause-verdict
returns-clause-verdict g c = λ t h.
    let i = seen c.args.item.now in
    let v = c.judge_into.new.verdict in
    let value = c.judge_into.ensures.value t (subst (λ (ws : List ℕ). IsCompiled t ws) (sym c.softwire-settings.ensures.list) h) in
    let first = first_is t i v value in
    record { judged = judged t i v first; value = value; only = λ other j. only_verdict t i v other first j }

pub returns-clause-access : goal.returns-clause-access
returns-clause-access g c = λ t h.
    let i = seen c.args.item.now in
    let v = c.judge_into.new.verdict in
    let first = first_is t i v (c.judge_into.ensures.value t (subst (λ (ws : List ℕ). IsCompiled t ws) (sym c.softwire-settings.ensures.list) h)) in
    let is_fine = fine t i v h.lawful first in
    record {
      forwards = forwards t i v h.lawful first;
      forbidden = forbidden t i v h.lawful first;
      refused = refused t i v h.lawful first;
      sends_on = sends_on t i v h.lawful first;
      brings_in = brings_in t i v h.lawful first;
      delivers = is_fine.delivers;
      relays_own = is_fine.relays;
      relays_all = relays_all t i v first;
      passes_on = passes_on t i v h.lawful first;
    }

pub returns-clause-fits : goal.returns-clause-fits
returns-clause-fits g c =
    let t = c.requires.table in
    let h = c.requires.of_table in
    let here = subst (λ (ws : List ℕ). IsCompiled t ws) (sym c.softwire-settings.ensures.list) h in
    (fine t (seen c.args.item.now) c.judge_into.new.verdict h.lawful
    (first_is t (seen c.args.item.now) c.judge_into.new.verdict (c.judge_into.ensures.value t here))).fits

pub returns-clause-room : goal.returns-clause-room
returns-clause-room g c =
    let t = c.requires.table in
    let h = c.requires.of_table in
    let here = subst (λ (ws : List ℕ). IsCompiled t ws) (sym c.softwire-settings.ensures.list) h in
    (fine t (seen c.args.item.now) c.judge_into.new.verdict h.lawful
    (first_is t (seen c.args.item.now) c.judge_into.new.verdict (c.judge_into.ensures.value t here))).room

pub returns-clause-bound : goal.returns-clause-bound
returns-clause-bound g c = λ t h.
    let here = subst (λ (ws : List ℕ). IsCompiled t ws) (sym c.softwire-settings.ensures.list) h in
    omega (arith, c.judge_into.ensures.bound t here, c.softwire-settings.ensures.steps)

pub returns-clause-one_shape : goal.returns-clause-one_shape
returns-clause-one_shape g c = λ t h one.
    let here = subst (λ (ws : List ℕ). IsCompiled t ws) (sym c.softwire-settings.ensures.list) h in
    omega (arith, c.judge_into.ensures.one_shape t here one, c.softwire-settings.ensures.steps)

pub returns-clause-reads : goal.returns-clause-reads
returns-clause-reads g c =
    reads_then g.W.Words c.args.words.now c.softwire-settings.new.words c.args.steps.now c.softwire-settings.new.steps g.met.W.Words.goes_on _ _
    (reads_so_many g.W.Words _ _ _ _ 4 c.softwire-settings.ensures.list c.softwire-settings.ensures.reads c.softwire-settings.ensures.goes
    c.softwire-settings.ensures.steps) c.judge_into.ensures.reads
