use Rattle.simulation.proofs.ReadImages.{fine-read}
use Rattle.simulation.proofs.laws.fine_accesses_read_the_images.Goals as goal

pub returns : goal.returns
returns c setting t m access base off count align is related other fine =
    fine-read setting t m is related access base off count align other fine
