use Rattle.std.proofs.Common.{rules, arith, refl}
use Rattle.area_swap.proofs.Deskwork.{may_pass, passed_view}
use Rattle.area_swap.proofs.desk.pass_over.Goals as goal

pub load-requires : goal.load-requires
load-requires c = (
  search rules,
  omega (arith, c.requires.written.inside, c.requires.inside),
  may_pass _ _ _ _ c.args.from _ _ c.args.place.now.me c.requires.written c.args.end c.requires.order c.requires.inside c.requires.alike,
)

pub returns-clause-seat : goal.returns-clause-seat
returns-clause-seat c = passed_view _ _ _ _ c.args.from c.args.end c.requires.written c.load.ensures.2 refl
