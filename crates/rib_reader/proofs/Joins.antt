-- One group after another.
use Rattle.std.proofs.Common.{◌≡◌, ℕ, zero, suc, ◌∷◌, [], ◌++◌, List, Result, Ok, Err, take, drop, map, refl, sym, ap, ◌∙◌, append_assoc}
use Rattle.std.specs.List.{prefix_len}
use Rattle.std.proofs.lemmas.List.{map-append}
use Rattle.rib_lex.specs.declared.token.Token.{Token}
use Rattle.rib_reader.specs.declared.declared.Declared.{Declared}
use Rattle.rib_reader.specs.declared.request.Request.{Request}
use Rattle.rib_reader.specs.Rules.{dict_after}
use Rattle.rib_reader.specs.Reading.{Read, Placed, plain, requests_from, with_front, and_then, of_group, is_value}

pass : (k : ℕ) (dict : List Declared) (ts : List Token) → requests_from k dict ts ≡ requests_from 0 dict (drop k ts)
pass zero dict ts = refl
pass (suc k) dict [] = refl
pass (suc k) dict (t ∷ ts) = pass k dict ts

pub with_front-append : (a b : List Read) (r : Result (List Read) Placed) → with_front (a ++ b) r ≡ with_front a (with_front b r)
with_front-append a b (Ok rs) = ap (λ xs. Ok xs) (append_assoc a b rs)
with_front-append a b (Err e) = refl

step : (dict : List Declared) (t : Token) (ts : List Token) (r : Read) → of_group dict t.kind t.line (take (prefix_len is_value ts) ts) ≡ Ok r
    → requests_from 0 dict (t ∷ ts) ≡ with_front (r ∷ []) (requests_from 0 (dict_after dict r.name r.args) (drop (prefix_len is_value ts) ts))
step dict t ts r is =
    ap (λ x. and_then x (λ r. requests_from (prefix_len is_value ts) (dict_after dict r.name r.args) ts)) is
    ∙ ap (with_front (r ∷ [])) (pass (prefix_len is_value ts) (dict_after dict r.name r.args) ts)

pub go : (done : List Request) (dict later : List Declared) (t : Token) (ts rest body after : List Token) (n : ℕ) (r : Request) (all : Result (List Read) Placed)
    → rest ≡ t ∷ ts → n ≡ prefix_len is_value ts → body ≡ take n ts → after ≡ drop n ts → of_group dict t.kind t.line body ≡ Ok (plain r)
    → later ≡ dict_after dict r.name r.args → with_front (map plain done) (requests_from 0 dict rest) ≡ all
    → with_front (map plain (done ++ r ∷ [])) (requests_from 0 later after) ≡ all
go done dict later t ts rest body after n r all whole count bodies afters is laters same =
    let k : ℕ = prefix_len is_value ts in
    let read : of_group dict t.kind t.line (take k ts) ≡ Ok (plain r) = ap (of_group dict t.kind t.line) (ap (λ m. take m ts) (sym count) ∙ sym bodies) ∙ is in
    let turn : requests_from 0 dict rest ≡ with_front (plain r ∷ []) (requests_from 0 (dict_after dict r.name r.args) (drop k ts)) =
    ap (requests_from 0 dict) whole ∙ step dict t ts (plain r) read in
    let behind : after ≡ drop k ts = afters ∙ ap (λ m. drop m ts) count in
    let here : requests_from 0 later after ≡ requests_from 0 (dict_after dict r.name r.args) (drop k ts) =
    ap (λ d. requests_from 0 d after) laters ∙ ap (requests_from 0 (dict_after dict r.name r.args)) behind in
    ap (λ front. with_front front (requests_from 0 later after)) (map-append plain done (r ∷ []))
    ∙ with_front-append (map plain done) (plain r ∷ []) (requests_from 0 later after)
    ∙ ap (with_front (map plain done)) (ap (with_front (plain r ∷ [])) here ∙ sym turn)
    ∙ same
