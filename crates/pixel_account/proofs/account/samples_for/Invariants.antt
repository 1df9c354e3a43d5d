use Rattle.pixel_account.proofs.account.samples_for.Given as goal

abbrev pub ghost-put_frame : goal.ghost-put_frame
ghost-put_frame g a = record { accepted = g.of.accepted; frame = a.shown.now.frame.now }

abbrev pub ghost-samples_of : goal.ghost-samples_of
ghost-samples_of g a = g.of
