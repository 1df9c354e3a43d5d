-- The requests of a text followed by another's.
use Rattle.std.proofs.Common.{◌≡◌, ℕ, zero, suc, ◌+◌, ◌≤◌, ◌∷◌, [], ◌++◌, List, Bool, true, false, not, cond, Result, Ok, Err, length, take, refl, sym, ap, ◌∙◌, arith}
use Rattle.std.specs.List.{prefix_len}
use Rattle.std.proofs.lemmas.List.{take-append-le}
use Rattle.std.proofs.lemmas.List.Sums.{prefix_len-le-length}
use Rattle.rib_lex.specs.declared.token.Token.{Token}
use Rattle.rib_reader.specs.declared.declared.Declared.{Declared}
use Rattle.rib_reader.specs.Rules.{dict_after}
use Rattle.rib_reader.specs.Reading.{Read, Placed, is_value, requests_from, with_front, and_then, of_group}
use Rattle.rib_reader.specs.Laws.{dict_behind, begins_request, followed, JoinLaw}
use Rattle.rib_reader.proofs.Joins.{with_front-append}

-- what stands behind, where the dictionary before is not empty
behind : List Declared → Result (List Read) Placed → List Token → Result (List Read) Placed
behind dict (Ok rs) back = with_front rs (requests_from 0 (dict_behind dict rs) back)
behind dict (Err e) back = Err e

nothing_in_front : (r : Result (List Read) Placed) → r ≡ with_front [] r
nothing_in_front (Ok rs) = refl
nothing_in_front (Err e) = refl

not_value : (b : Bool) → not b ≡ true → b ≡ false
not_value true e = absurd cc
not_value false e = refl

-- the group at the end of the first text ends with it
same_group : (ts back : List Token) → begins_request back ≡ true → prefix_len is_value (ts ++ back) ≡ prefix_len is_value ts
same_group [] [] b = refl
same_group [] (t ∷ back) b = ap (λ v. cond v (1 + prefix_len is_value back) 0) (not_value (is_value t) b)
same_group (t ∷ ts) back b = ap (λ n. cond (is_value t) (1 + n) 0) (same_group ts back b)

turn : (dict : List Declared) (r : Read) (rest : Result (List Read) Placed) (back : List Token)
    → with_front (r ∷ []) (behind (dict_after dict r.name r.args) rest back) ≡ behind dict (with_front (r ∷ []) rest) back
unfolding behind
turn dict r (Ok rs) back = sym (with_front-append (r ∷ []) rs (requests_from 0 (dict_behind (dict_after dict r.name r.args) rs) back))
turn dict r (Err e) back = refl

-- a request that was read or not, where what follows it is known
first : (dict : List Declared) (read : Result Read Placed) (ts back : List Token)
    → ((n : ℕ) (dict : List Declared) → n ≤ length ts → requests_from n dict (ts ++ back) ≡ behind dict (requests_from n dict ts) back)
    → and_then read (λ r. requests_from (prefix_len is_value ts) (dict_after dict r.name r.args) (ts ++ back))
    ≡ behind dict (and_then read (λ r. requests_from (prefix_len is_value ts) (dict_after dict r.name r.args) ts)) back
unfolding behind
first dict (Err e) ts back later = refl
first dict (Ok r) ts back later =
    ap (with_front (r ∷ [])) (later (prefix_len is_value ts) (dict_after dict r.name r.args) (prefix_len-le-length is_value ts))
    ∙ turn dict r (requests_from (prefix_len is_value ts) (dict_after dict r.name r.args) ts) back

joined : (n : ℕ) (dict : List Declared) (ts back : List Token) → n ≤ length ts → begins_request back ≡ true
    → requests_from n dict (ts ++ back) ≡ behind dict (requests_from n dict ts) back
unfolding behind
joined zero dict [] back h b = nothing_in_front (requests_from 0 dict back)
joined (suc n) dict [] back h b = absurd (omega arith)
joined (suc n) dict (t ∷ ts) back h b = joined n dict ts back (omega arith) b
joined zero dict (t ∷ ts) back h b =
    ap (λ k. and_then (of_group dict t.kind t.line (take k (ts ++ back))) (λ r. requests_from k (dict_after dict r.name r.args) (ts ++ back))) (same_group ts back b)
    ∙ ap (λ body. and_then (of_group dict t.kind t.line body) (λ r. requests_from (prefix_len is_value ts) (dict_after dict r.name r.args) (ts ++ back)))
    (take-append-le (prefix_len is_value ts) ts back (prefix_len-le-length is_value ts))
    ∙ first dict (of_group dict t.kind t.line (take (prefix_len is_value ts) ts)) ts back (λ n dict within. joined n dict ts back within b)

same_behind : (r : Result (List Read) Placed) (back : List Token) → behind [] r back ≡ followed r back
unfolding behind
same_behind (Ok rs) back = refl
same_behind (Err e) back = refl

pub join_law : JoinLaw
join_law front back b = joined 0 [] front back (omega arith) b ∙ same_behind (requests_from 0 [] front) back
