use Rattle.epoch_laws.proofs.Standing as lemma
use Rattle.epoch_laws.proofs.offer_stands.Goals as goal

pub returns : goal.returns
returns c net lines order stores open_time tuples more closed_time history event stands sound follows added =
    lemma.offer_stands net lines order stores tuples more closed_time history event sound added open_time stands follows
