use Rattle.std.proofs.Common.{◌≡◌, subst, sym, ℕ, List, None, Ok}
use Rattle.sto_lang.specs.Objects.{Declaration}
use Rattle.sto_lang.specs.Scripts.{File, Script}
use Rattle.sto_lang.specs.Sound.{IsSound}
use Rattle.sto_lang.specs.Files.{file_of as reading_of}
use Rattle.sto_write.specs.Texts.{text_of}
use Rattle.sto_gen.proofs.Sound.{generated_sound}
use Rattle.sto_gen.proofs.ReadBack.{generated_reads_back}
use Rattle.sto_gen.proofs.file.generate.Goals as goal

pub returns-clause-sound : goal.returns-clause-sound
returns-clause-sound c =
    let whole : List Declaration → List (List ℕ) → List (List Script) → File =
    λ objects names all. record { version = 1; declarations = objects; names = names; threads = all; schedule = None } in
    let made = c.in_ok-threads.ensures in
    subst IsSound (sym (λ i. whole (c.in_ok-objects.ensures i) (made.names i) (made.threads i))) (generated_sound c.args.number)

pub returns-clause-reads_back : goal.returns-clause-reads_back
returns-clause-reads_back c =
    let whole : List Declaration → List (List ℕ) → List (List Script) → File =
    λ objects names all. record { version = 1; declarations = objects; names = names; threads = all; schedule = None } in
    let made = c.in_ok-threads.ensures in
    subst (λ (f : File). reading_of (text_of f) ≡ Ok f) (sym (λ i. whole (c.in_ok-objects.ensures i) (made.names i) (made.threads i))) (generated_reads_back c.args.number)
