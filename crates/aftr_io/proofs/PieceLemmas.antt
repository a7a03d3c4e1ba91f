-- How the pieces of a list join, in memory, in a file and in a sink.
use Rattle.std.proofs.Common.{◌≡◌, ℕ, ◌+◌, ◌≤◌, List, ◌++◌, length, take, drop, Option, Some, None, sym, ◌∙◌, ap, subst, arith, append_assoc, length-drop}
use Rattle.std.proofs.Math.Seq.{take-add}
use Rattle.std.proofs.lemmas.List.{drop-drop, length-take, length-take-le}
use Rattle.std.specs.Option.{option_map}
use Rattle.aftr_io.specs.Contents.{Contents, content, Told, Moves, Writes}

-- a sink that took x and then y took both
pub took_then : (a b c : Option (List ℕ)) (x y z : List ℕ) → b ≡ option_map (λ taken. taken ++ x) a → c ≡ option_map (λ taken. taken ++ y) b → x ++ y ≡ z → c ≡ option_map (λ taken. taken ++ z) a
took_then None b c x y z first second both = second ∙ ap (option_map (λ taken. taken ++ y)) first
took_then (Some taken) b c x y z first second both = second ∙ ap (option_map (λ taken. taken ++ y)) first ∙ ap (λ l. Some l) (append_assoc taken x y ∙ ap (λ l. taken ++ l) both)

-- a file that got x and then y got both
pub moves_then : (a b c : Option Contents) (name x y z : List ℕ) → Moves a b (λ m n. Writes m n name (content m name ++ x)) → Moves b c (λ m n. Writes m n name (content m name ++ y)) → x ++ y ≡ z → Moves a c (λ m n. Writes m n name (content m name ++ z))
moves_then None None None name x y z first second both = tt
moves_then None None (Some c) name x y z first second both = second
moves_then None (Some b) c name x y z first second both = absurd first
moves_then (Some a) None c name x y z first second both = absurd first
moves_then (Some a) (Some b) None name x y z first second both = second
moves_then (Some a) (Some b) (Some c) name x y z first second both = record {
  here = second.here ∙ ap (λ l. l ++ y) first.here ∙ append_assoc (content a name) x y ∙ ap (λ l. content a name ++ l) both;
  others = λ other apart. second.others other apart ∙ first.others other apart;
}

-- what was read at `place`, and then right behind it
pub told_front : (a b : Option Contents) (name : List ℕ) (place got count : ℕ) (before part after : List ℕ) → b ≡ a
    → take (got + count) after ≡ take got before ++ take count part
    → Told a (λ m. take got before ≡ take got (drop place (content m name)))
    → Told b (λ m. take count part ≡ take count (drop (place + got) (content m name)))
    → Told a (λ m. take (got + count) after ≡ take (got + count) (drop place (content m name)))
told_front None b name place got count before part after same joined first second = tt
told_front (Some m) b name place got count before part after same joined first second =
    let bytes = content m name in
    let next : take count part ≡ take count (drop (place + got) bytes) = subst (λ o. Told o (λ m. take count part ≡ take count (drop (place + got) (content m name)))) same second in
    joined ∙ ap (λ l. l ++ take count part) first
    ∙ ap (λ l. take got (drop place bytes) ++ l) (next ∙ ap (take count) (sym (drop-drop got place bytes)))
    ∙ sym (take-add got count (drop place bytes))

-- the file has the bytes that were read
pub told_there : (a b : Option Contents) (name : List ℕ) (place got count : ℕ) (part : List ℕ) → b ≡ a → count ≤ length part
    → Told a (λ m. got ≤ length (drop place (content m name)))
    → Told b (λ m. take count part ≡ take count (drop (place + got) (content m name)))
    → Told a (λ m. got + count ≤ length (drop place (content m name)))
told_there None b name place got count part same in_part first second = tt
told_there (Some m) b name place got count part same in_part first second =
    let bytes = content m name in
    let next : take count part ≡ take count (drop (place + got) bytes) = subst (λ o. Told o (λ m. take count part ≡ take count (drop (place + got) (content m name)))) same second in
    let long : length (take count part) ≡ length (take count (drop (place + got) bytes)) = ap length next in
    omega (arith, first, length-take-le count part in_part, length-take count (drop (place + got) bytes), length-drop (place + got) bytes, length-drop place bytes)
