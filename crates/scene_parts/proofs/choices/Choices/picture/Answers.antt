use Rattle.scene_parts.proofs.choices.Choices.picture.Goals as goal

pub returns-clause-crop : goal.returns-clause-crop
returns-clause-crop c =
    let crop = c.crop_in.ensures in
    record { across = crop.across; in_width = crop.in_width; down = crop.down; in_height = crop.in_height }
