-- the signer and the certificate reference
pub mod Reference
-- the header's fields, and their checks in order
pub mod Header
-- its octets
pub mod Head
