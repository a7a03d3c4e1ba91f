use Rattle.std.proofs.Common.{◌≡◌, ◌+◌, ◌-◌, List, ℕ, length, drop, take, ◌∙◌, sym, ap, arith}
use Rattle.std.proofs.lemmas.Bool.Decides.{nat_tests}
use Rattle.capture_io.specs.declared.fronts.Front.{Front}
use Rattle.capture_io.specs.declared.fronts.Front.TheVariants as front
use Rattle.capture_io.specs.Fronts.{IsFront, Tells, front_in}
use Rattle.capture_io.specs.Record.{next_in}
use Rattle.capture_io.proofs.TakenLemmas.{front_of_rest, length_more, pushed_taken, pushed_within, renumbered, said_at, some_taken}
use Rattle.capture_io.proofs.fronts.take_records.Goals as goal
use Rattle.capture_io.proofs.fronts.take_records.Goals.{After-front_of}

-- what the front of the rest says of the bytes of the file
told : (c : After-front_of) → (f : Front) → c.front_of.result ≡ f → (bytes : List ℕ) → IsFront c.args.piece.now c.args.last (drop c.args.at bytes) →
    Tells (c.args.at + c.records.used) (drop c.records.used c.args.piece.now) f
    (next_in c.args.big (drop (c.args.at + c.records.used) bytes) (c.args.at + c.records.used) (c.args.number + c.len-in-records.result))
told c f is = λ bytes there.
    said_at c.args.big c.args.piece.now c.args.last bytes c.args.at c.records.used (c.args.number + c.len-in-records.result) f c.records.invariant.taken.inside
    there (sym c.front_of.ensures ∙ is)

-- the same of the rest, whose record has the number behind those of the places
said : (c : After-front_of) → (f : Front) → c.front_of.result ≡ f →
    front_in c.args.big (take (length c.args.piece.now - c.records.used) (drop c.records.used c.args.piece.now)) c.args.last (c.args.at + c.records.used)
    (c.args.number + length c.records.places.items) ≡ f
said c f is =
    renumbered c.args.big c.args.piece.now c.args.last c.args.at c.records.used (c.args.number + c.len-in-records.result)
    (c.args.number + length c.records.places.items) f
    (omega (arith, c.len-in-records.ensures)) (sym c.front_of.ensures ∙ is)

pub returns-in-End-clause-ended : goal.returns-in-End-clause-ended
returns-in-End-clause-ended c = told (goal.at.returns-in-End-clause-ended c).After-front_of front.End c.in-End.is

pub returns-in-Bad-clause-ended : goal.returns-in-Bad-clause-ended
returns-in-Bad-clause-ended c = told (goal.at.returns-in-Bad-clause-ended c).After-front_of (front.Bad c.in-Bad.refusal) c.in-Bad.is

pub returns-in-More-clause-some : goal.returns-in-More-clause-some
returns-in-More-clause-some c = λ ending.
    some_taken c.args.big c.args.piece.now c.args.last c.args.at c.args.number c.args.most_bytes c.records.used (c.args.number + length c.records.places.items)
    c.records.bytes c.records.places.items
    c.records.invariant.taken c.requires.decided (said (goal.at.returns-in-More-clause-some c).After-front_of front.More c.in-More.is)

pub records-preserved : goal.records-preserved
records-preserved c =
    let nth : ℕ = c.args.number + length c.records.places.items in
    let whole = front_of_rest c.args.big c.args.piece.now c.args.last c.args.at c.records.used nth (front.Whole c.in-Whole.head)
    (said (goal.at.records-preserved c).After-front_of (front.Whole c.in-Whole.head) c.in-Whole.is) in
    let longer : length c.push_reserved.new.self.items ≡ length c.records.places.items + 1 =
    ap length c.push_reserved.ensures.items ∙ length_more c.records.places.items c.place_of.result in
    record {
      taken = pushed_taken c.args.big c.args.piece.now c.args.last c.args.at c.args.number c.args.most_bytes c.records.places.items c.records.used nth
          c.records.bytes c.in-Whole.head c.records.invariant.taken whole c.push_reserved.new.self.items c.place_of.result
          (c.args.number + length c.push_reserved.new.self.items) c.push_reserved.ensures.items c.place_of.ensures
          (grind (arith, nat_tests)) (grind (arith, nat_tests)) (omega (arith, longer));
      within = pushed_within c.args.big c.args.piece.now c.args.last c.args.at c.args.number c.args.most_bytes c.records.places.items c.records.used nth
          c.records.bytes c.in-Whole.head c.records.invariant.taken whole c.push_reserved.new.self.items c.place_of.result c.push_reserved.ensures.items
          c.place_of.ensures c.records.invariant.within;
      room = omega (arith, c.push_reserved.ensures.capacity, c.records.invariant.room);
    }
