-- The command that clap gives.
use Rattle.std.proofs.Common.{◌≡◌, ℕ, ◌<◌, ◌≤◌, ◌^◌, Bool, List, [], ◌∷◌, length, Option, Some, None, true, false, cond, refl, subst, ⊎_elim, sym, ap, ap₂, ◌∙◌, codes, arith}
use Rattle.std.specs.Str.Parse.{IsNumeral, digits_value, without_leading_plus}
use Rattle.std.proofs.lemmas.Bool.{eqb-true}
use Rattle.clap.specs.Values.{IsUnsignedIn}
use Rattle.clap.specs.ValueTests.{is_unsigned_in}
use Rattle.clap.proofs.ValueTestLemmas.{accepts-Accepts, Accepts-accepts}
use Rattle.clap.specs.declared.builder.value_parser.ValueParser.TheVariants.{Unsigned}
use Rattle.clap.specs.Walk.{Text, first_of, rows_of, is_empty}
use Rattle.clap.specs.Simple.{App, is_simple, matches_of}
use Rattle.clap.specs.Faults.{fault_of, is_simple_and_free}
use Rattle.clap.specs.Kinds.{Kinds, HasKind, IsAmong}
use Rattle.clap.specs.Values.{kind_of}
use Rattle.clap.specs.declared.error.Error.{Error}
use Rattle.clap.specs.declared.error.kind.ErrorKind.{ErrorKind}
use Rattle.clap.specs.declared.error.kind.ErrorKind.TheVariants.{OutOfMemory}
use Rattle.clap.specs.Matches.{first_value}
use Rattle.clap.specs.declared.parser.matches.Found.{Found}
use Rattle.clap.proofs.WalkLemmas.{first_value-rows}
use Rattle.command_line.specs.Command.{Command, number_in, reyes, options_for, parts_for, command_for, command_by, command_in, command_of}

pub simple : is_simple reyes ≡ true
simple = refl

pub free : is_simple_and_free reyes ≡ true
free = refl

empty : (kinds : Kinds) (x y : Option Command) → kinds ≡ [] → x ≡ cond (is_empty kinds) x y
empty [] x y e = refl
empty (k ∷ ks) x y e = absurd (cc e)

pub given : (a : App) (ws : List Text) (f : Found) → a ≡ reyes → rows_of f ≡ matches_of a ws → fault_of a ws ≡ []
    → command_by (first_value f) ≡ command_of ws
given a ws f is rows fault =
    let here : rows_of f ≡ matches_of reyes ws = rows ∙ ap (λ b. matches_of b ws) is in
    let none : fault_of reyes ws ≡ [] = ap (λ b. fault_of b ws) (sym is) ∙ fault in
    let options = ap₂ (λ b g. options_for b g (first_value f (codes "stats"))) (first_value-rows f (codes "bucket")) (first_value-rows f (codes "grid-points"))
    ∙ ap (options_for (first_of (codes "bucket") (rows_of f)) (first_of (codes "grid-points") (rows_of f))) (first_value-rows f (codes "stats")) in
    let parts = ap₂ parts_for (first_value-rows f (codes "part")) (first_value-rows f (codes "of")) in
    ap₂ (λ a n. command_for a n (options_for (first_value f (codes "bucket")) (first_value f (codes "grid-points")) (first_value f (codes "stats")))
    (parts_for (first_value f (codes "part")) (first_value f (codes "of"))))
    (first_value-rows f (codes "action")) (first_value-rows f (codes "name"))
    ∙ ap₂ (command_for (first_of (codes "action") (rows_of f)) (first_of (codes "name") (rows_of f))) options parts
    ∙ ap command_in here
    ∙ empty (fault_of reyes ws) (command_in (matches_of reyes ws)) None none

-- words with a fault are no command
faulty : (k : ErrorKind) (kinds : Kinds) (x : Option Command) → IsAmong k kinds → None ≡ cond (is_empty kinds) x None
faulty k [] x among = absurd among
faulty k (j ∷ kinds) x among = by (is_empty (j ∷ kinds)) refl
  where
    by : (b : Bool) → is_empty (j ∷ kinds) ≡ b → None ≡ cond (is_empty (j ∷ kinds)) x None
    by true e = let none : length (j ∷ kinds) ≡ 0 = eqb-true (length (j ∷ kinds)) 0 e in absurd (omega (arith, none))
    by false e = sym (ap (λ b. cond b x None) e)

pub refused : (a : App) (ws : List Text) (e : Error) → a ≡ reyes → HasKind (fault_of a ws) e → (kind_of e ≡ OutOfMemory → ⊥) → None ≡ command_of ws
refused a ws e is kinds other =
    ⊎_elim
    (λ (k : kind_of e ≡ OutOfMemory). absurd (other k))
    (λ (k : IsAmong (kind_of e) (fault_of a ws)). (let among : IsAmong (kind_of e) (fault_of reyes ws) = subst (λ b. IsAmong (kind_of e) (fault_of b ws)) is k in
    faulty (kind_of e) (fault_of reyes ws) (command_in (matches_of reyes ws)) among))
    kinds

-- the number of an option's text
pub number_read : (low high n : ℕ) (text : Text) → (IsNumeral 10 (without_leading_plus text) × (digits_value 10 (without_leading_plus text) < 2 ^ 32)) × (n ≡ digits_value 10 (without_leading_plus text))
    → low ≤ n → n ≤ high → Some n ≡ number_in low high text
number_read low high n text parsed least most =
    let value = digits_value 10 (without_leading_plus text) in
    let same : n ≡ value = parsed.1 in
    let test : is_unsigned_in low high text ≡ true =
    Accepts-accepts false (Unsigned low high) text (parsed.0.0, omega (arith, parsed.0.1), omega (arith, same, least), omega (arith, same, most)) in
    ap (λ v. Some v) same ∙ sym (ap (λ b. cond b (Some value) None) test)

pub number_unread : (low high : ℕ) (text : Text) → ((IsNumeral 10 (without_leading_plus text) × (digits_value 10 (without_leading_plus text) < 2 ^ 32)) → ⊥)
    → high < 2 ^ 32 → None ≡ number_in low high text
number_unread low high text unparsed few = by (is_unsigned_in low high text) refl
  where
    by : (b : Bool) → is_unsigned_in low high text ≡ b → None ≡ number_in low high text
    by true e =
        let parsed : IsUnsignedIn low high text = accepts-Accepts false (Unsigned low high) text e in
        absurd (unparsed (parsed.0, omega (arith, parsed.3, few)))
    by false e = sym (ap (λ b. cond b (Some (digits_value 10 (without_leading_plus text))) None) e)
