use Rattle.std.proofs.Common.{◌≡◌, Some, None, option_map, refl, sym, ap, ◌∙◌}
use Rattle.toml.specs.Parse.{atom, key_equals}
use Rattle.table_costs.proofs.FirstLineLemmas.{rest_of, no_pair, open_pair, no_value, whole_pair}
use Rattle.table_costs.proofs.first_line.begins_pair.Goals as goal

pub returns-in_default : goal.returns-in_default
returns-in_default c =
    let none : None ≡ rest_of (key_equals c.args.text.now) = sym (ap (λ o. option_map (λ r. r.now) o) c.in_default.is) ∙ c.in_ok-value.ensures in
    no_pair c.args.text.now (key_equals c.args.text.now) c.requires refl none

pub returns-then-opens : goal.returns-then-opens
returns-then-opens c =
    let some : Some c.in-Some.value.now ≡ rest_of (key_equals c.args.text.now) = sym (ap (λ o. option_map (λ r. r.now) o) c.in-Some.is) ∙ c.in_ok-value.ensures in
    open_pair c.args.text.now c.in-Some.value.now (key_equals c.args.text.now) refl some (sym c.opens.ensures ∙ c.if-opens.true)

pub returns-in-Some-2 : goal.returns-in-Some-2
returns-in-Some-2 c =
    let value = c.in-Some.value.now in
    let some : Some value ≡ rest_of (key_equals c.args.text.now) = sym (ap (λ o. option_map (λ r. r.now) o) c.in-Some.is) ∙ c.in_ok-value.ensures in
    let left : Some c.in-Some-2.rest.now ≡ rest_of (atom value) = sym (ap (λ o. option_map (λ r. r.now) o) c.in-Some-2.is) ∙ c.in_ok-rest.ensures in
    c.ends_line.ensures ∙ whole_pair c.args.text.now value c.in-Some-2.rest.now (key_equals c.args.text.now) (atom value) c.requires refl some (sym c.opens.ensures ∙ c.if-opens.false) refl left

pub returns-in-None : goal.returns-in-None
returns-in-None c =
    let value = c.in-Some.value.now in
    let some : Some value ≡ rest_of (key_equals c.args.text.now) = sym (ap (λ o. option_map (λ r. r.now) o) c.in-Some.is) ∙ c.in_ok-value.ensures in
    let left : None ≡ rest_of (atom value) = sym (ap (λ o. option_map (λ r. r.now) o) c.in-None.is) ∙ c.in_ok-rest.ensures in
    no_value c.args.text.now value (key_equals c.args.text.now) (atom value) c.requires refl some (sym c.opens.ensures ∙ c.if-opens.false) refl left
