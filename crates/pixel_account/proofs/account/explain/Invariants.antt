use Rattle.buckets.specs.Shopped.{shaded_by}
use Rattle.pixel_account.proofs.account.explain.Given as goal

abbrev pub ghost-samples_for : goal.ghost-samples_for
ghost-samples_for a = record { accepted = shaded_by a.shown.now.scene.now a.shop.now; x = a.x; y = a.y }
