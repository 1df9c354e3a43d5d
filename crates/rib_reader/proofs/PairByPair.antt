-- A list read pair by pair.
use Rattle.std.proofs.Common.{◌≡◌, ◌∷◌, [], ◌++◌, List, ℕ, Option, Some, None, drop, refl, sym, ap, ◌∙◌, append_assoc}
use Rattle.std.specs.List.{slice_get, cons_option}
use Rattle.std.proofs.lemmas.List.{append-nil}
use Rattle.rib_reader.specs.declared.args.Arg.{Arg}
use Rattle.rib_reader.specs.declared.args.Arg.TheVariants.{Str}
use Rattle.scene.specs.declared.params.Param.{Param}
use Rattle.rib_reader.specs.declared.follows.Follows.{Follows}
use Rattle.rib_reader.specs.declared.follows.Follows.TheVariants.{Nothing, Anything, Free, Bound, Parameters, Variables, Bicubic, Quadric}
use Rattle.rib_reader.specs.declared.faults.RibCode.{RibCode}
use Rattle.rib_reader.specs.declared.faults.RibCode.TheVariants.{S3}
use Rattle.rib_reader.specs.declared.declared.Declared.{Declared}
use Rattle.rib_reader.specs.declared.listing.Listing.{Listing}
use Rattle.rib_reader.specs.Rules.{lower}
use Rattle.rib_reader.specs.Lists.{Pair, Of, NoToken, pair_code, variable_of, pairs_of, of_pairs, list_of}
use Rattle.rib_reader.specs.PairSteps.{with_pair, with_rest}
use Rattle.rib_reader.proofs.Lowest.{lower_assoc}

-- a pair is read with those behind it
pub one_pair : (follows : Follows) (dict : List Declared) (l : Listing) (p : Pair) (ps : List Pair)
    → with_rest (with_pair follows dict l p) (of_pairs follows dict ps) ≡ with_rest l (of_pairs follows dict (p ∷ ps))
one_pair follows dict l p ps =
    ap (λ (code : Option RibCode). record { fault = code; params = (l.params ++ cons_option (variable_of follows dict p) []) ++ (of_pairs follows dict ps).params })
    (lower_assoc l.fault (pair_code follows dict p) (of_pairs follows dict ps).fault)
    ∙ ap (λ (params : List Param). record { fault = lower l.fault (lower (pair_code follows dict p) (of_pairs follows dict ps).fault); params = params }) (more (variable_of follows dict p))
  where
    more : (o : Option Param) → (l.params ++ cons_option o []) ++ (of_pairs follows dict ps).params ≡ l.params ++ cons_option o (of_pairs follows dict ps).params
    more None = append_assoc l.params [] (of_pairs follows dict ps).params
    more (Some q) = append_assoc l.params (q ∷ []) (of_pairs follows dict ps).params

-- the first pair of a list
pub first_pair : (t : List ℕ) (vs : List Arg) → pairs_of (Str t ∷ vs) ≡ Of t (slice_get vs 0) ∷ pairs_of (drop 1 vs)
first_pair t [] = refl
first_pair t (v ∷ vs) = refl

none_behind : (a : Option RibCode) → lower a None ≡ a
none_behind None = refl
none_behind (Some code) = refl

-- nothing is left to be read
pub at_end : (follows : Follows) (dict : List Declared) (l : Listing) → with_rest l (of_pairs follows dict []) ≡ l
at_end follows dict l =
    ap (λ (code : Option RibCode). record { fault = code; params = l.params ++ [] }) (none_behind l.fault)
    ∙ ap (λ (params : List Param). record { fault = l.fault; params = params }) (append-nil l.params)

-- no string stands for a token
pub no_token : (follows : Follows) (dict : List Declared) (l : Listing) → with_rest l (of_pairs follows dict (NoToken ∷ [])) ≡ record { fault = lower l.fault (Some S3); params = l.params }
no_token follows dict l = ap (λ (params : List Param). record { fault = lower l.fault (Some S3); params = params }) (append-nil l.params)

pub one_read : (follows : Follows) (dict : List Declared) (l later : Listing) (t : List ℕ) (rest vs after : List Arg) (whole : Listing)
    → rest ≡ Str t ∷ vs → after ≡ drop 1 vs → later ≡ with_pair follows dict l (Of t (slice_get vs 0))
    → with_rest l (of_pairs follows dict (pairs_of rest)) ≡ whole → with_rest later (of_pairs follows dict (pairs_of after)) ≡ whole
one_read follows dict l later t rest vs after whole is behind laters same =
    ap (λ a. with_rest later (of_pairs follows dict (pairs_of a))) behind
    ∙ ap (λ (b : Listing). with_rest b (of_pairs follows dict (pairs_of (drop 1 vs)))) laters
    ∙ one_pair follows dict l (Of t (slice_get vs 0)) (pairs_of (drop 1 vs))
    ∙ sym (ap (λ ps. with_rest l (of_pairs follows dict ps)) (first_pair t vs))
    ∙ sym (ap (λ r. with_rest l (of_pairs follows dict (pairs_of r))) is)
    ∙ same

-- a list that is looked up
pub looked_up : (follows : Follows) (dict : List Declared) (vs : List Arg) → (follows ≡ Nothing → ⊥) → (follows ≡ Anything → ⊥)
    → list_of follows dict vs ≡ of_pairs follows dict (pairs_of vs)
looked_up Nothing dict vs n a = absurd (n refl)
looked_up Anything dict vs n a = absurd (a refl)
looked_up Free dict vs n a = refl
looked_up Bound dict vs n a = refl
looked_up Parameters dict vs n a = refl
looked_up Variables dict vs n a = refl
looked_up Bicubic dict vs n a = refl
looked_up Quadric dict vs n a = refl
