-- Lemmas on packets that are appended in parts.
use Rattle.std.proofs.Common.{◌≡◌, ℕ, ◌+◌, ◌-◌, ◌≤◌, List, [], ◌++◌, length, take, if◌then◌else◌, is_ok, IsOk, IfOk, Result, Ok, Err, refl, sym, ◌∙◌, ap, arith, append_assoc}
use Rattle.std.proofs.lemmas.List.{length-append, take_all}
use Rattle.std.proofs.Math.Seq.{take-append-add, take-append_seam}
use borrow.Rule.Slice.PartMut.{put_mid}
use Rattle.aftr_base.proofs.FrontLemmas.{front_over}
use Rattle.aftr_base.specs.declared.numbers.V4.{V4}
use Rattle.aftr_base.specs.declared.numbers.V6.{V6}
use Rattle.icmp_codec.specs.Message4.{icmp4_bytes}
use Rattle.icmp_codec.specs.Message6.{icmp6_bytes}
use Rattle.ip_codec.proofs.Laws.{front-joined}
use Rattle.ip_codec.specs.Packet4.{header4}
use Rattle.ip_codec.specs.Packet6.{bytes6, header6}
use Rattle.ip_codec.specs.declared.items.Outer.{Outer}
use Rattle.ip_codec.specs.declared.packet6.Head6.{Head6}
use Rattle.icmp_errors.specs.Errors4.{error4, error_head}
use Rattle.icmp_errors.specs.Policy6.{policy6, policy_head, quoted_head}

-- a header was appended, and then the rest with success
pub pushed : {A E : Type 0} (r : Result A E) (new list old header rest whole : List ℕ) → IsOk r →
    new ≡ (if is_ok r then list ++ rest else list) → list ≡ old ++ header → header ++ rest ≡ whole →
    new ≡ (if is_ok r then old ++ whole else old)
pushed (Ok x) new list old header rest whole ok new_is list_is whole_is =
    new_is ∙ ap (λ l. l ++ rest) list_is ∙ append_assoc old header rest ∙ ap (λ l. old ++ l) whole_is
pushed (Err e) new list old header rest whole ok new_is list_is whole_is = absurd cc

-- the first bytes of two lists are those of the first, and of the second as many as are left
pub front_of_both : (n : ℕ) (a b first second : List ℕ) → first ≡ take n a → second ≡ take (n - length first) b →
    first ++ second ≡ take n (a ++ b)
front_of_both n a b first second first_is second_is =
    ap (λ l. first ++ l) second_is ∙ ap (λ l. l ++ take (n - length l) b) first_is ∙ front-joined n a b

-- a header for a message of this length, and the message
pub error4-parts : (own to : V4) (kind code word n : ℕ) (quote packet : List ℕ) → n ≡ 8 + length quote → quote ≡ take 548 packet →
    header4 (error_head own to) [] n ++ icmp4_bytes kind code word quote ≡ error4 own to kind code word packet
error4-parts own to kind code word n quote packet n_is quote_is =
    let len : n ≡ length (icmp4_bytes kind code word quote) = n_is ∙ omega arith in
    ap (λ m. header4 (error_head own to) [] m ++ icmp4_bytes kind code word quote) len
    ∙ ap (λ q. header4 (error_head own to) [] (length (icmp4_bytes kind code word q)) ++ icmp4_bytes kind code word q) quote_is

header6-length : (head : Head6) (n : ℕ) → length (header6 head n) ≡ 40
header6-length head n = refl

header6-bytes6 : (head : Head6) (body : List ℕ) → header6 head (length body) ++ body ≡ bytes6 head body
header6-bytes6 head body = refl

-- a tunnel's header and the first bytes behind it
pub tunnel_front : (head : Head6) (body more : List ℕ) → more ≡ take 1192 body →
    header6 head (length body) ++ more ≡ take 1232 (bytes6 head body)
tunnel_front head body more more_is =
    let header = header6 head (length body) in
    ap (λ l. header ++ l) more_is
    ∙ sym (take-append-add header body 1192)
    ∙ ap (λ n. take (n + 1192) (header ++ body)) (header6-length head (length body))
    ∙ ap (λ l. take 1232 l) (header6-bytes6 head body)

-- the same of a body in two parts, of which the first is quoted whole
pub tunnel_fronts : (head : Head6) (first second more tunnel quote : List ℕ) → length first ≤ 1192 →
    tunnel ≡ header6 head (length first + length second) → quote ≡ tunnel ++ first → more ≡ take (1192 - length first) second →
    quote ++ more ≡ take 1232 (bytes6 head (first ++ second))
tunnel_fronts head first second more tunnel quote short tunnel_is quote_is more_is =
    ap (λ l. l ++ more) quote_is
    ∙ append_assoc tunnel first more
    ∙ ap (λ l. l ++ (first ++ more)) (tunnel_is ∙ ap (λ n. header6 head n) (sym (length-append first second)))
    ∙ tunnel_front head (first ++ second) (first ++ more)
    (front_of_both 1192 first second first more (sym (take_all 1192 first short)) more_is)

pub policy6-parts : (from to : V6) (hop n : ℕ) (outer : Outer) (inner quote : List ℕ) → n ≡ 8 + length quote →
    quote ≡ take 1232 (bytes6 (quoted_head outer) inner) →
    header6 (policy_head from to hop) n ++ icmp6_bytes from.0 to.0 1 5 0 quote ≡ policy6 from to hop outer inner
policy6-parts from to hop n outer inner quote n_is quote_is =
    let len : n ≡ length (icmp6_bytes from.0 to.0 1 5 0 quote) = n_is ∙ omega arith in
    ap (λ m. header6 (policy_head from to hop) m ++ icmp6_bytes from.0 to.0 1 5 0 quote) len
    ∙ header6-bytes6 (policy_head from to hop) (icmp6_bytes from.0 to.0 1 5 0 quote)
    ∙ ap (λ q. bytes6 (policy_head from to hop) (icmp6_bytes from.0 to.0 1 5 0 q)) quote_is

-- what holds anyway holds of a success, and what follows from it too
pub on_success : {A E P : Type 0} (r : Result A E) → P → IfOk r (λ _. P)
on_success (Ok x) holds = holds
on_success (Err e) holds = tt

pub then_on_success : {A E P Q : Type 0} (r : Result A E) → (P → Q) → IfOk r (λ _. P) → IfOk r (λ _. Q)
then_on_success (Ok x) follows holds = follows holds
then_on_success (Err e) follows holds = tt

-- what a call appended where it succeeded
pub appended_ok : {A E : Type 0} (r : Result A E) (x : A) (new old more : List ℕ) → r ≡ Ok x →
    new ≡ (if is_ok r then old ++ more else old) → new ≡ old ++ more
appended_ok (Ok y) x new old more is new_is = new_is
appended_ok (Err e) x new old more is new_is = absurd cc

-- a list in front of an array, and another one put behind it
pub put_behind : (n m k : ℕ) (first rest part front behind : List ℕ) → length first ≡ n → length part ≡ m → first ≡ front → part ≡ behind →
    take (n + m) (put_mid n k (first ++ rest) part) ≡ front ++ behind
put_behind n m k first rest part front behind first_len part_len first_is part_is =
    front_over n k m (first ++ rest) part (omega (arith, length-append first rest, first_len)) (omega (arith, part_len))
    ∙ (λ i. take (sym first_len i) (first ++ rest) ++ take (sym part_len i) part)
    ∙ ((λ i. take-append_seam first rest i ++ take_all (length part) part (omega arith) i) ∙ (λ i. first_is i ++ part_is i))
