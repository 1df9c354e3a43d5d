use Rattle.buckets.proofs.frame.run_epoch.Given as goal

abbrev pub ghost-go_on : goal.ghost-go_on
ghost-go_on g a = record { begun = g.begun; epochs = a.progress.now.report.epochs; most_points = a.progress.now.report.most_points }
