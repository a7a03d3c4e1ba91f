use Rattle.worker_gate.proofs.Served.{claim_served, nothing_on, nothing_work, served_none}
use Rattle.worker_gate.proofs.Trying.{tried_nothing}
use Rattle.worker_gate.proofs.serving.serve_in.Goals as goal

pub claims-init : goal.claims-init
claims-init g c =
    record {
      work = c.requires.work;
      idle = c.requires.idle;
      served = served_none c.args.task.now.areas.now.plan (g.S.RoundItems.items c.args.task.now.items.now) c.args.task.now.start c.args.worker.now;
    }

pub returns-in-Some-ended-clause-served : goal.returns-in-Some-ended-clause-served
returns-in-Some-ended-clause-served g c =
    claim_served c.args.task.now.areas.now.plan (g.S.RoundItems.items c.args.task.now.items.now) c.args.task.now.start c.args.worker.now c.claims.worker
    c.serve_held-ended.new.worker c.try_claim.new.seat c.give_up.new.seat c.claims.invariant.served (tried_nothing c.try_claim.result c.claims.worker.seat.known c.try_claim.new.seat.known c.try_claim.ensures.tried)
    c.serve_held-ended.ensures.served c.give_up.ensures.nothing

pub claims-preserved-in-Some-try_claim : goal.claims-preserved-in-Some-try_claim
claims-preserved-in-Some-try_claim g c =
    let w = c.serve_held-ended.new.worker in
    let t = c.comes_next-patient.new.seat in
    let nothing = nothing_on w.seat.known c.give_up.new.seat.known t.known c.give_up.ensures.nothing c.comes_next-patient.ensures.nothing in
    record {
      work =
          nothing_work c.args.task.now.areas.now c.args.task.now.start c.args.task.now.end w t c.comes_next-patient.ensures.areas nothing
          c.serve_held-ended.ensures.work;
      idle = c.comes_next-patient.ensures.idle;
      served =
          claim_served c.args.task.now.areas.now.plan (g.S.RoundItems.items c.args.task.now.items.now) c.args.task.now.start c.args.worker.now c.claims.worker
          w c.try_claim.new.seat t c.claims.invariant.served (tried_nothing c.try_claim.result c.claims.worker.seat.known c.try_claim.new.seat.known c.try_claim.ensures.tried)
          c.serve_held-ended.ensures.served nothing;
    }
