use Rattle.std.proofs.Common.{◌∙◌, ap, sym, subst, ◌*◌, ◌++◌, List, ℕ, take}
use Rattle.std.proofs.lemmas.List.{take-append-drop}
use Rattle.std.proofs.lemmas.Bool.{false≢true}
use Rattle.parts.specs.Formats.{AreLevels, channel_bytes}
use Rattle.parts.proofs.Bucketry.{none_high}
use Rattle.parts.proofs.buckets.bucket_in.Goals as goal

pub returns-else-are_levels : goal.returns-else-are_levels
returns-else-are_levels c =
    let h = c.args.header.now in
    let w = c.word-number in
    let s = c.split_at in
    let size = c.channel_bytes.result * (3 * c.area-channels.result) in
    let area_is = c.area-channels.ensures.value in
    none_high h c.args.least w.result.0 c.args.bytes.now w.result.1.now s.result.0.now s.result.1.now c.requires w.ensures.number w.ensures.value
    (ap (λ (xs : List ℕ). xs ++ s.result.1.now) s.ensures.front ∙ ap (λ (xs : List ℕ). take size w.result.1.now ++ xs) s.ensures.back ∙ take-append-drop size w.result.1.now)
    (s.ensures.front_len ∙ ap (λ d. d * (3 * c.area-channels.result)) c.channel_bytes.ensures.value ∙ ap (λ a. channel_bytes h.one * (3 * a)) area_is)
    (λ v. false≢true (sym c.if-are_levels.false ∙ c.are_levels.ensures.1 (subst (λ a. AreLevels h.one (3 * a) s.result.0.now) (sym area_is) v)))
