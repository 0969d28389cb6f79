-- How a feed is computed, re-exported for worked examples.
unfoldable pub use Rattle.decoder_core.specs.Queue.{feed_for}
