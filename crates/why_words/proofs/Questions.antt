-- The question that clap gives.
use Rattle.std.proofs.Common.{◌≡◌, ℕ, Bool, List, [], ◌∷◌, length, Option, Some, None, true, false, cond, refl, subst, ⊎_elim, sym, ap, ap₂, ◌∙◌, codes, option_and_then, arith}
use Rattle.std.proofs.lemmas.Bool.{eqb-true}
use Rattle.clap.specs.Walk.{Text, first_of, rows_of, is_empty}
use Rattle.clap.specs.Simple.{App, is_simple, matches_of}
use Rattle.clap.specs.Faults.{fault_of, is_simple_and_free}
use Rattle.clap.specs.Kinds.{Kinds, HasKind, IsAmong}
use Rattle.clap.specs.Values.{kind_of}
use Rattle.clap.specs.declared.error.Error.{Error}
use Rattle.clap.specs.declared.error.kind.ErrorKind.{ErrorKind}
use Rattle.clap.specs.declared.error.kind.ErrorKind.TheVariants.{OutOfMemory}
use Rattle.clap.specs.Matches.{first_value}
use Rattle.clap.specs.declared.parser.matches.Found.{Found}
use Rattle.clap.proofs.WalkLemmas.{first_value-rows}
use Rattle.command_line.specs.Command.{number_in, is_set}
use Rattle.why_words.specs.Question.{Question, why, question_with, question_by, question_in, question_of}

pub simple : is_simple why ≡ true
simple = refl

pub free : is_simple_and_free why ≡ true
free = refl

empty : (kinds : Kinds) (x y : Option Question) → kinds ≡ [] → x ≡ cond (is_empty kinds) x y
empty [] x y e = refl
empty (k ∷ ks) x y e = absurd (cc e)

-- what clap gives by names is what it gives by rows
by_rows : (f : Found) → question_by (first_value f) ≡ question_in (rows_of f)
by_rows f =
    let row : Text → Option Text = λ name. first_of name (rows_of f) in
    let column : Option Text → Option ℕ = option_and_then (number_in 0 4095) in
    let number : Option Text → Option ℕ = option_and_then (number_in 0 999) in
    ap₂ (λ n x. question_with n (column x) (column (first_value f (codes "y"))) (number (first_value f (codes "frame"))) (is_set (first_value f (codes "points"))))
    (first_value-rows f (codes "name")) (first_value-rows f (codes "x"))
    ∙ ap₂ (λ y n. question_with (row (codes "name")) (column (row (codes "x"))) (column y) (number n) (is_set (first_value f (codes "points"))))
    (first_value-rows f (codes "y")) (first_value-rows f (codes "frame"))
    ∙ ap (λ p. question_with (row (codes "name")) (column (row (codes "x"))) (column (row (codes "y"))) (number (row (codes "frame"))) (is_set p))
    (first_value-rows f (codes "points"))

pub given : (a : App) (ws : List Text) (f : Found) → a ≡ why → rows_of f ≡ matches_of a ws → fault_of a ws ≡ []
    → question_by (first_value f) ≡ question_of ws
given a ws f is rows fault =
    let here : rows_of f ≡ matches_of why ws = rows ∙ ap (λ b. matches_of b ws) is in
    let none : fault_of why ws ≡ [] = ap (λ b. fault_of b ws) (sym is) ∙ fault in
    by_rows f ∙ ap question_in here ∙ empty (fault_of why ws) (question_in (matches_of why ws)) None none

-- words with a fault are no question
faulty : (k : ErrorKind) (kinds : Kinds) (x : Option Question) → IsAmong k kinds → None ≡ cond (is_empty kinds) x None
faulty k [] x among = absurd among
faulty k (j ∷ kinds) x among = by (is_empty (j ∷ kinds)) refl
  where
    by : (b : Bool) → is_empty (j ∷ kinds) ≡ b → None ≡ cond (is_empty (j ∷ kinds)) x None
    by true e = let none : length (j ∷ kinds) ≡ 0 = eqb-true (length (j ∷ kinds)) 0 e in absurd (omega (arith, none))
    by false e = sym (ap (λ b. cond b x None) e)

pub refused : (a : App) (ws : List Text) (e : Error) → a ≡ why → HasKind (fault_of a ws) e → (kind_of e ≡ OutOfMemory → ⊥) → None ≡ question_of ws
refused a ws e is kinds other =
    ⊎_elim
    (λ (k : kind_of e ≡ OutOfMemory). absurd (other k))
    (λ (k : IsAmong (kind_of e) (fault_of a ws)). (let among : IsAmong (kind_of e) (fault_of why ws) = subst (λ b. IsAmong (kind_of e) (fault_of b ws)) is k in
    faulty (kind_of e) (fault_of why ws) (question_in (matches_of why ws)) among))
    kinds
