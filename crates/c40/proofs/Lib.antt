-- The laws of C40, and what is demanded of it.
pub mod Coding  -- characters and their values tell each other
pub mod Packing  -- three values in one number, and a number in two octets
pub mod Pairs  -- a reading pair by pair
pub mod Counting  -- the steps of the loop that counts the characters
pub mod Storing  -- the steps of the loop that stores them, and what was counted decides
pub mod Exactly  -- a field has as many characters as were asked for, or none
pub mod Imaging  -- the steps of the loop that writes an image, and of a text it is the image (`imaged-text`)
-- exactly the images are read (`reads-exactly`, `refuses-exactly`), no two texts share one (`image-tells`), and it is octets, two
-- for each three characters begun (`image-length`, `image-octets`)
pub mod Images
-- a field of so many characters is read exactly where such a text's image stands (`field-read`, `read-field`)
pub mod Fields
