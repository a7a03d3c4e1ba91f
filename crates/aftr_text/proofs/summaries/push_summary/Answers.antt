use Rattle.std.proofs.Common.{ℕ, List, ◌++◌, codes, decimal, string_bytes, refl, ◌∙◌, ap}
use Rattle.aftr_text.proofs.Appending.{longer, counted}
use Rattle.aftr_text.proofs.summaries.push_summary.Goals as goal

pub returns : goal.returns
returns c =
    let old : List ℕ = string_bytes c.args.text.now in
    let t = c.args.totals in
    let records : List ℕ = codes "records " ++ decimal t.records in
    let held : List ℕ = records ++ codes " held " ++ decimal t.held in
    let forwarded : List ℕ = held ++ codes " forwarded " ++ decimal t.forwarded in
    let dropped : List ℕ = forwarded ++ codes " dropped " ++ decimal t.dropped in
    let packets : List ℕ = dropped ++ codes " packets " ++ decimal t.packets in
    let version : List ℕ = packets ++ codes " version " ++ decimal t.version in
    longer old version (codes "\n") (string_bytes c.push_count-6.new.line) (string_bytes c.push_str.new.self)
    (counted old packets (codes " version ") (string_bytes c.push_count-5.new.line) (string_bytes c.push_count-6.new.line) c.from-5.result t.version
    (counted old dropped (codes " packets ") (string_bytes c.push_count-4.new.line) (string_bytes c.push_count-5.new.line) t.packets t.packets
    (counted old forwarded (codes " dropped ") (string_bytes c.push_count-3.new.line) (string_bytes c.push_count-4.new.line) c.from-4.result t.dropped
    (counted old held (codes " forwarded ") (string_bytes c.push_count-2.new.line) (string_bytes c.push_count-3.new.line) c.from-3.result t.forwarded
    (counted old records (codes " held ") (string_bytes c.push_count.new.line) (string_bytes c.push_count-2.new.line) c.from-2.result t.held
    (longer old (codes "records ") (decimal t.records) (old ++ codes "records ") (string_bytes c.push_count.new.line) refl
    (c.in_ok-push_count.ensures.bytes ∙ ap (λ (n : ℕ). old ++ codes "records " ++ decimal n) c.from.ensures))
    c.in_ok-push_count-2.ensures.bytes c.from-2.ensures)
    c.in_ok-push_count-3.ensures.bytes c.from-3.ensures)
    c.in_ok-push_count-4.ensures.bytes c.from-4.ensures)
    c.in_ok-push_count-5.ensures.bytes refl)
    c.in_ok-push_count-6.ensures.bytes c.from-5.ensures)
    c.in_ok-push_str.ensures.bytes
