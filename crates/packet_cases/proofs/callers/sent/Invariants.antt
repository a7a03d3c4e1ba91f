use Rattle.packet_cases.proofs.callers.sent.Given as goal

abbrev pub ghosts-push_sent_by : goal.ghosts-push_sent_by
ghosts-push_sent_by a = record { name = a.blank.name; parts = a.blank.parts }
