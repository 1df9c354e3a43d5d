-- Values and the tokens that they are written with.
use Rattle.std.proofs.Common.{◌≡◌, ℕ, ◌∷◌, [], ◌++◌, List, Bool, true, false, not, ◌&&◌, ◌||◌, ◌==◌, cond, length, map, refl, sym, ap, ◌∙◌, append_assoc, inl, inr, ◌⊎◌, arith}
use Rattle.std.proofs.lemmas.Bool.{and_parts}
use Rattle.std.proofs.lemmas.Bool.Decides.{nat_tests}
use Rattle.std.proofs.lemmas.List.{append-nil, map-append}
use Rattle.fixed_math.specs.declared.decimal.Decimal.{Decimal}
use Rattle.rib_lex.specs.declared.token.Token.{Token}
use Rattle.rib_lex.specs.declared.token.TokenKind.{TokenKind}
use Rattle.rib_lex.specs.declared.token.TokenKind.TheVariants as kinds
use Rattle.rib_reader.specs.declared.args.Arg.{Arg}
use Rattle.rib_reader.specs.declared.args.Arg.TheVariants.{Number, Str, Numbers, Strings}
use Rattle.rib_reader.specs.declared.scan.Scan.{Scan}
use Rattle.rib_reader.specs.Values.{start, is_mixed, with_array, with_broken, scanned, ended, scan_from}
use Rattle.rib_reader.specs.Laws.{spelled, spelled_all, is_plain, are_plain, token_kind, read_as, SpellLaw, ReadLaw}

-- an array that is begun
abbrev opened : List Arg → List Decimal → List (List ℕ) → Scan
opened vs ns ss = record { values = vs; numbers = ns; strings = ss; inside = true; broken = false }

abbrev scan_kinds : Scan → List TokenKind → Scan
scan_kinds s [] = ended s
scan_kinds s (k ∷ ks) = scan_kinds (scanned s k) ks

by_kinds : (s : Scan) (ts : List Token) → scan_from s ts ≡ scan_kinds s (map token_kind ts)
by_kinds s [] = refl
by_kinds s (t ∷ ts) = by_kinds (scanned s t.kind) ts

abbrev number_kinds : List Decimal → List TokenKind
number_kinds ds = map (λ d. kinds.Number d) ds

abbrev string_kinds : List (List ℕ) → List TokenKind
string_kinds ts = map (λ t. kinds.Str t) ts

numbers_read : (vs : List Arg) (ns ds : List Decimal) (ks : List TokenKind)
    → scan_kinds (opened vs ns []) ((number_kinds ds ++ kinds.Close ∷ []) ++ ks) ≡ scan_kinds (read_as (vs ++ Numbers (ns ++ ds) ∷ [])) ks
numbers_read vs ns [] ks = ap (λ xs. scan_kinds (read_as (vs ++ Numbers xs ∷ [])) ks) (sym (append-nil ns))
numbers_read vs ns (d ∷ ds) ks =
    numbers_read vs (ns ++ d ∷ []) ds ks ∙ ap (λ xs. scan_kinds (read_as (vs ++ Numbers xs ∷ [])) ks) (append_assoc ns (d ∷ []) ds)

not_none : {A : Type 0} (x : A) (xs : List A) → (length (x ∷ xs) == 0) ≡ false
not_none x xs = grind (arith, nat_tests)

-- an array of strings is a value
array_of_strings : (vs : List Arg) (u : List ℕ) (us : List (List ℕ)) → with_array (opened vs [] (u ∷ us)) ≡ read_as (vs ++ Strings (u ∷ us) ∷ [])
array_of_strings vs u us =
    let made : Bool → Scan = λ b. record { values = vs ++ cond b (Numbers []) (Strings (u ∷ us)) ∷ []; numbers = []; strings = []; inside = false; broken = false || (not b && not (0 == 0)) } in
    ap made (not_none u us)

mixed : (vs : List Arg) (n : Decimal) (ns : List Decimal) (u : List ℕ) (us : List (List ℕ)) → (with_array (opened vs (n ∷ ns) (u ∷ us))).broken ≡ true
mixed vs n ns u us =
    ap (λ b. not b && not (length (n ∷ ns) == 0)) (not_none u us) ∙ ap not (not_none n ns)

strings_read : (vs : List Arg) (u : List ℕ) (us ts : List (List ℕ)) (ks : List TokenKind)
    → scan_kinds (opened vs [] (u ∷ us)) ((string_kinds ts ++ kinds.Close ∷ []) ++ ks) ≡ scan_kinds (read_as (vs ++ Strings (u ∷ (us ++ ts)) ∷ [])) ks
strings_read vs u us [] ks = ap (λ s. scan_kinds s ks) (array_of_strings vs u us) ∙ ap (λ xs. scan_kinds (read_as (vs ++ Strings (u ∷ xs) ∷ [])) ks) (sym (append-nil us))
strings_read vs u us (t ∷ ts) ks =
    strings_read vs u (us ++ t ∷ []) ts ks ∙ ap (λ xs. scan_kinds (read_as (vs ++ Strings (u ∷ xs) ∷ [])) ks) (append_assoc us (t ∷ []) ts)

read_value : (a : Arg) → is_plain a ≡ true → (vs : List Arg) (ks : List TokenKind)
    → scan_kinds (read_as vs) (spelled a ++ ks) ≡ scan_kinds (read_as (vs ++ a ∷ [])) ks
read_value (Number d) p vs ks = refl
read_value (Str t) p vs ks = refl
read_value (Numbers ds) p vs ks = numbers_read vs [] ds ks
read_value (Strings []) p vs ks = absurd cc
read_value (Strings (t ∷ ts)) p vs ks = strings_read vs t [] ts ks

read_values : (args : List Arg) → are_plain args ≡ true → (vs : List Arg) → scan_kinds (read_as vs) (spelled_all args) ≡ read_as (vs ++ args)
read_values [] p vs = ap read_as (sym (append-nil vs))
read_values (a ∷ rest) p vs =
    read_value a (and_parts (is_plain a) (are_plain rest) p).0 vs (spelled_all rest)
    ∙ read_values rest (and_parts (is_plain a) (are_plain rest) p).1 (vs ++ a ∷ [])
    ∙ ap read_as (append_assoc vs (a ∷ []) rest)

pub spell_law : SpellLaw
spell_law ts args plain same = by_kinds start ts ∙ ap (scan_kinds start) same ∙ read_values args plain []

either : (b : Bool) (x y : Scan) → x.broken ≡ true → y.broken ≡ true → (cond b x y).broken ≡ true
either true x y p q = p
either false x y p q = q

scanned_broken : (s : Scan) (k : TokenKind) → s.broken ≡ true → (scanned s k).broken ≡ true
scanned_broken s (kinds.Name t) h = refl
scanned_broken s (kinds.Str t) h = either s.inside _ _ h h
scanned_broken s (kinds.Number d) h = either s.inside _ _ h h
scanned_broken s kinds.Open h = either s.inside _ _ refl h
scanned_broken s kinds.Close h = either s.inside _ _ (ap (λ b. b || is_mixed s) h) refl

-- a wrong bracket stays one
broken_stays : (ks : List TokenKind) (s : Scan) → s.broken ≡ true → (scan_kinds s ks).broken ≡ true
broken_stays [] s h = either s.inside _ _ refl h
broken_stays (k ∷ ks) s h = broken_stays ks (scanned s k) (scanned_broken s k h)

true_or_false : (b : Bool) → b ≡ true → b ≡ false → ⊥
true_or_false true h e = cc
true_or_false false h e = cc

never : (ks : List TokenKind) (s : Scan) → s.broken ≡ true → (scan_kinds s ks).broken ≡ false → ⊥
never ks s h e = true_or_false (scan_kinds s ks).broken (broken_stays ks s h) e

spelled_more : (vs : List Arg) (a : Arg) → spelled_all (vs ++ a ∷ []) ≡ spelled_all vs ++ spelled a
spelled_more [] a = append-nil (spelled a)
spelled_more (v ∷ vs) a = ap (λ ks. spelled v ++ ks) (spelled_more vs a) ∙ sym (append_assoc (spelled v) (spelled_all vs) (spelled a))

-- a value more, and then these tokens
behind_value : (vs : List Arg) (a : Arg) (ks : List TokenKind) → spelled_all (vs ++ a ∷ []) ++ ks ≡ spelled_all vs ++ (spelled a ++ ks)
behind_value vs a ks = ap (λ front. front ++ ks) (spelled_more vs a) ∙ append_assoc (spelled_all vs) (spelled a) ks

-- what was read outside of an array is what its tokens spell
abbrev Outside : List TokenKind → Type 0
Outside ks = (vs : List Arg) → (scan_kinds (read_as vs) ks).broken ≡ false → spelled_all (scan_kinds (read_as vs) ks).values ≡ spelled_all vs ++ ks

-- and what was read in one
abbrev Inside : List TokenKind → Type 0
Inside ks = (vs : List Arg) (ns : List Decimal) (ss : List (List ℕ)) → (scan_kinds (opened vs ns ss) ks).broken ≡ false
    → ((ns ≡ []) ⊎ (ss ≡ [])) × (spelled_all (scan_kinds (opened vs ns ss) ks).values ≡ spelled_all vs ++ (kinds.Open ∷ (number_kinds ns ++ (string_kinds ss ++ ks))))

outside_next : (k : TokenKind) (ks : List TokenKind) → Outside ks → Inside ks → Outside (k ∷ ks)
outside_next (kinds.Name t) ks out ins vs e = absurd (never ks (with_broken (read_as vs) false) refl e)
outside_next (kinds.Str t) ks out ins vs e = out (vs ++ Str t ∷ []) e ∙ behind_value vs (Str t) ks
outside_next (kinds.Number d) ks out ins vs e = out (vs ++ Number d ∷ []) e ∙ behind_value vs (Number d) ks
outside_next kinds.Open ks out ins vs e = (ins vs [] [] e).1
outside_next kinds.Close ks out ins vs e = absurd (never ks (with_broken (read_as vs) false) refl e)

left_only : (ns : List Decimal) (ss : List (List ℕ)) (t : List ℕ) → (ns ≡ []) ⊎ ((ss ++ t ∷ []) ≡ []) → ns ≡ []
left_only ns ss t (inl h) = h
left_only ns [] t (inr h) = absurd cc
left_only ns (s ∷ ss) t (inr h) = absurd cc

right_only : (ns : List Decimal) (ss : List (List ℕ)) (d : Decimal) → ((ns ++ d ∷ []) ≡ []) ⊎ (ss ≡ []) → ss ≡ []
right_only ns ss d (inr h) = h
right_only [] ss d (inl h) = absurd cc
right_only (n ∷ ns) ss d (inl h) = absurd cc

string_behind : (ss : List (List ℕ)) (t : List ℕ) (ks : List TokenKind) → string_kinds (ss ++ t ∷ []) ++ ks ≡ string_kinds ss ++ (kinds.Str t ∷ ks)
string_behind ss t ks = ap (λ front. front ++ ks) (map-append (λ t. kinds.Str t) ss (t ∷ [])) ∙ append_assoc (string_kinds ss) (kinds.Str t ∷ []) ks

number_behind : (ns : List Decimal) (d : Decimal) (ks : List TokenKind) → number_kinds (ns ++ d ∷ []) ++ ks ≡ number_kinds ns ++ (kinds.Number d ∷ ks)
number_behind ns d ks = ap (λ front. front ++ ks) (map-append (λ d. kinds.Number d) ns (d ∷ [])) ∙ append_assoc (number_kinds ns) (kinds.Number d ∷ []) ks

-- the array that ends
closed : (vs : List Arg) (ns : List Decimal) (ss : List (List ℕ)) (ks : List TokenKind) → Outside ks → (scan_kinds (opened vs ns ss) (kinds.Close ∷ ks)).broken ≡ false
    → ((ns ≡ []) ⊎ (ss ≡ [])) × (spelled_all (scan_kinds (opened vs ns ss) (kinds.Close ∷ ks)).values ≡ spelled_all vs ++ (kinds.Open ∷ (number_kinds ns ++ (string_kinds ss ++ (kinds.Close ∷ ks)))))
closed vs ns [] ks out e = (
  inr refl,
  out (vs ++ Numbers ns ∷ []) e ∙ behind_value vs (Numbers ns) ks
      ∙ ap (λ rest. spelled_all vs ++ (kinds.Open ∷ rest)) (append_assoc (number_kinds ns) (kinds.Close ∷ []) ks),
)
closed vs [] (s ∷ ss) ks out e = (
  inl refl,
  ap (λ s. spelled_all (scan_kinds s ks).values) (array_of_strings vs s ss)
      ∙ out (vs ++ Strings (s ∷ ss) ∷ []) (sym (ap (λ s. (scan_kinds s ks).broken) (array_of_strings vs s ss)) ∙ e) ∙ behind_value vs (Strings (s ∷ ss)) ks
      ∙ ap (λ rest. spelled_all vs ++ (kinds.Open ∷ rest)) (append_assoc (string_kinds (s ∷ ss)) (kinds.Close ∷ []) ks),
)
closed vs (n ∷ ns) (s ∷ ss) ks out e = absurd (never ks (with_array (opened vs (n ∷ ns) (s ∷ ss))) (mixed vs n ns s ss) e)

string_next : (vs : List Arg) (ns : List Decimal) (ss : List (List ℕ)) (t : List ℕ) (ks : List TokenKind) (read : List TokenKind)
    → ((ns ≡ []) ⊎ ((ss ++ t ∷ []) ≡ [])) × (read ≡ spelled_all vs ++ (kinds.Open ∷ (number_kinds ns ++ (string_kinds (ss ++ t ∷ []) ++ ks))))
    → ((ns ≡ []) ⊎ (ss ≡ [])) × (read ≡ spelled_all vs ++ (kinds.Open ∷ (number_kinds ns ++ (string_kinds ss ++ (kinds.Str t ∷ ks)))))
string_next vs ns ss t ks read h =
    (inl (left_only ns ss t h.0), h.1 ∙ ap (λ rest. spelled_all vs ++ (kinds.Open ∷ (number_kinds ns ++ rest))) (string_behind ss t ks))

number_next : (vs : List Arg) (ns : List Decimal) (ss : List (List ℕ)) (d : Decimal) (ks : List TokenKind) (read : List TokenKind)
    → (((ns ++ d ∷ []) ≡ []) ⊎ (ss ≡ [])) × (read ≡ spelled_all vs ++ (kinds.Open ∷ (number_kinds (ns ++ d ∷ []) ++ (string_kinds ss ++ ks))))
    → ((ns ≡ []) ⊎ (ss ≡ [])) × (read ≡ spelled_all vs ++ (kinds.Open ∷ (number_kinds ns ++ (string_kinds ss ++ (kinds.Number d ∷ ks)))))
number_next vs ns ss d ks read h =
    let none : ss ≡ [] = right_only ns ss d h.0 in (
      inr none,
      h.1 ∙ ap (λ rest. spelled_all vs ++ (kinds.Open ∷ rest))
          (ap (λ xs. number_kinds (ns ++ d ∷ []) ++ (string_kinds xs ++ ks)) none
          ∙ number_behind ns d ks
          ∙ ap (λ xs. number_kinds ns ++ (string_kinds xs ++ (kinds.Number d ∷ ks))) (sym none)),
    )

inside_next : (k : TokenKind) (ks : List TokenKind) → Outside ks → Inside ks → Inside (k ∷ ks)
inside_next (kinds.Name t) ks out ins vs ns ss e = absurd (never ks (with_broken (opened vs ns ss) true) refl e)
inside_next (kinds.Str t) ks out ins vs ns ss e = string_next vs ns ss t ks _ (ins vs ns (ss ++ t ∷ []) e)
inside_next (kinds.Number d) ks out ins vs ns ss e = number_next vs ns ss d ks _ (ins vs (ns ++ d ∷ []) ss e)
inside_next kinds.Open ks out ins vs ns ss e = absurd (never ks (with_broken (opened vs ns ss) true) refl e)
inside_next kinds.Close ks out ins vs ns ss e = closed vs ns ss ks out e

unended : (b : Bool) → true ≡ false → ⊥
unended b e = cc

reads : (ks : List TokenKind) → Outside ks × Inside ks
reads [] = (λ vs e. sym (append-nil (spelled_all vs)), λ vs ns ss e. absurd (unended true e))
reads (k ∷ ks) = (outside_next k ks (reads ks).0 (reads ks).1, inside_next k ks (reads ks).0 (reads ks).1)

pub read_law : ReadLaw
read_law ts e =
    sym (ap (λ s. spelled_all s.values) (by_kinds start ts) ∙ (reads (map token_kind ts)).0 [] (sym (ap (λ s. s.broken) (by_kinds start ts)) ∙ e))
