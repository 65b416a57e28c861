-- The definitions that the contracts of `window_lists` cite, each file over the one above it. The laws about them stand in proofs/.
pub mod Windows
pub mod WindowRefusals
