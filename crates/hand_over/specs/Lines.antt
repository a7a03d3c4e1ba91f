-- What the two sides of a line have asked, taken, given and heard, oldest first. Ours.
use Rattle.std.specs.Prelude.{List, [], ◌≡◌}
use Rattle.rtrb.specs.Ring.{IsPair, SameConsumer, SameProducer, received, sent}
use Rattle.hand_over.specs.declared.answerer.Answerer.{Answerer}
use Rattle.hand_over.specs.declared.asker.Asker.{Asker}

module _ {T U P : Type 0} where
  abbrev pub asked : Asker T U P → List T
  asked a = sent a.asks

  abbrev pub heard : Asker T U P → List U
  heard a = received a.answers

  abbrev pub taken : Answerer T U P → List T
  taken b = received b.to_answer

  abbrev pub given : Answerer T U P → List U
  given b = sent b.gives

  -- the two sides of one line
  abbrev pub IsLine : Asker T U P → Answerer T U P → Type 0
  IsLine a b = IsPair a.asks b.to_answer × IsPair b.gives a.answers

  -- the same side of the same line
  abbrev pub SameAsker : Asker T U P → Asker T U P → Type 0
  SameAsker before now = SameProducer before.asks now.asks × SameConsumer before.answers now.answers

  abbrev pub SameAnswerer : Answerer T U P → Answerer T U P → Type 0
  SameAnswerer before now = SameConsumer before.to_answer now.to_answer × SameProducer before.gives now.gives

  -- the two sides of a line on which nothing was asked yet
  pub record IsNewLine (a : Asker T U P) (b : Answerer T U P) : Type 0 where
    pub line : IsLine a b
    pub asked_none : asked a ≡ []
    pub heard_none : heard a ≡ []
    pub taken_none : taken b ≡ []
    pub given_none : given b ≡ []
