use Rattle.sto_cli.proofs.drawn.draw_text.Goals as goal

pub draw_file-requires-clause-sound : goal.draw_file-requires-clause-sound
draw_file-requires-clause-sound c = c.in_ok-file.ensures.sound
