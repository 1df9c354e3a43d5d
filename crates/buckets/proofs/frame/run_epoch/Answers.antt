use Rattle.std.proofs.Common.{◌≡◌, ◌∙◌, ◌+◌, max, ap, sym, subst, refl, ℕ, []}
use Rattle.bound_split.specs.Lengths.{most_below}
use Rattle.grid_epoch.specs.Kept.{points_in}
use Rattle.buckets.specs.declared.frame.Progress.{Progress}
use Rattle.buckets.specs.declared.limits.Report.{Report}
use Rattle.buckets.specs.TileWalk.{samples_at}
use Rattle.buckets.specs.Standing.{InEpoch, next_epoch}
use Rattle.buckets.specs.Progress.{Stands, next_of}
use Rattle.buckets.proofs.Bounds.{ends_shadings, ends_epochs, ends_points}
use Rattle.buckets.proofs.StepsOn.{stands_told}
use Rattle.buckets.proofs.frame.run_epoch.Goals as goal

pub go_on-requires : goal.go_on-requires
go_on-requires g c = λ κs h.
    let q = c.requires.1 in
    let p = c.args.progress.now in
    let count = c.args.shop.now.count in
    let e = next_of g.begun p.report in
    let r : Report = record { epochs = p.report.epochs + 1; most_points = p.report.most_points; most_samples = p.report.most_samples } in
    let now : Progress = record { drawing = p.drawing; filter = p.filter; row = p.row; report = r } in
    let stands : Stands e now [] count = stands_told e p r [] count refl q.1.1.1.0 in
    (h, (q.0, (q.1.0, (c.new-epoch.ensures.limit ∙ q.0.limit, (subst (λ ks. Stands e now ks count) (sym c.new-epoch.ensures.kept) stands, q.1.1.1.1)))))

pub returns-clause-runs : goal.returns-clause-runs
returns-clause-runs g c =
    let b = g.begun in
    let old = c.args.progress.now in
    let new = c.go_on.new.progress in
    let kept = c.go_on.new.epoch.kept in
    let count = c.go_on.new.shop.count in
    let e : InEpoch = record { begun = b; epochs = old.report.epochs + 1; most_points = old.report.most_points } in
    let a = c.in_ok-go_on.ensures.advances in
    let most : c.max-progress.result ≡ max old.report.most_points (points_in kept) =
    c.max-progress.ensures ∙ ap (λ (m : ℕ). max m c.live.result) a.points ∙ ap (λ (m : ℕ). max old.report.most_points m) c.live.ensures.value in
    let r : Report = record { epochs = new.report.epochs; most_points = c.max-progress.result; most_samples = new.report.most_samples } in
    let now : Progress = record { drawing = new.drawing; filter = new.filter; row = new.row; report = r } in
    record {
      within = a.within;
      epochs = a.epochs;
      full = λ low.
          subst (λ (n : ℕ). Stands (record { begun = b; epochs = n + 1; most_points = c.max-progress.result }) now [] count) (sym a.epochs)
          (subst (λ (m : ℕ). Stands (record { begun = b; epochs = old.report.epochs + 1 + 1; most_points = m }) now [] count) (sym most)
          (stands_told (next_epoch (points_in kept) e) new r [] count refl (a.full low)));
      ended = λ is. (let before = a.ended is in record {
        shadings = ends_shadings e new.drawing.at kept count is before;
        epochs = a.epochs ∙ ends_epochs e new.drawing.at kept count is before;
        points = most ∙ ends_points e new.drawing.at kept count is before;
        samples = a.samples ∙ ap (λ (k : ℕ). max b.most_samples (most_below k (samples_at b.drawing))) is;
      });
      shaded = tt;
      keeps = a.keeps;
    }
