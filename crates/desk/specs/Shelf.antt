-- What the map of the open documents stands for. Nothing here has to be believed.
use Rattle.index_loader.specs.Files.{Files}
use Rattle.desk.specs.Documents.{Names}

-- the documents, with the loaded index files
pub record Shelf : Type 0 where
  pub indexes : Files
  pub named : Names
