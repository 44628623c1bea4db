use Rattle.sto_run_feed.proofs.queue.open_queue.Given as goal

abbrev pub ghosts-opened : goal.ghosts-opened
ghosts-opened a = record { jobs = a.jobs.now.items }
